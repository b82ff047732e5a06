-- What stands directly in a node of a Java tree: its leaves, and the nodes that are its parts.
use Rattle.std.specs.Prelude.{ℕ, ◌==◌, ◌||◌, List, [], ◌∷◌, Bool, Option, None, Some, filter, map, length}
use Rattle.std.specs.List.{list_any}
use Rattle.rw_base.specs.declared.tree.Leaf.{Leaf}
use Rattle.rw_base.specs.Arena.{leaf_at}
use Rattle.rw_base.specs.Trees.{none, leaf, node, Numbered}
use Rattle.java_lex.specs.declared.class.TheConstants.{ID, LAMBDA, LABEL, TREF, DECL}

-- the numbers of its leaves, in order
abbrev pub leaves_in : Numbered → List ℕ
leaves_in none = []
leaves_in (leaf i rest) = i ∷ leaves_in rest
leaves_in (node n k own rest) = leaves_in rest

-- the kinds of its nodes, in order
abbrev pub kinds_in : Numbered → List ℕ
kinds_in none = []
kinds_in (leaf i rest) = kinds_in rest
kinds_in (node n k own rest) = k ∷ kinds_in rest

abbrev pub first_of : {A : Type 0} → List A → Option A
first_of [] = None
first_of (x ∷ xs) = Some x

-- the class of a leaf
abbrev pub class_at : List Leaf → ℕ → ℕ
class_at leaves i = (leaf_at leaves i).class

-- a leaf is a name where it is an identifier (JLS 3.8), also one that is a lambda's parameter or a label, or that
-- begins a type
abbrev pub is_name : ℕ → Bool
is_name class = class == ID || class == LAMBDA || class == LABEL || class == TREF || class == DECL

-- the names directly in a node
abbrev pub names_in : List Leaf → Numbered → List ℕ
names_in leaves trees = filter (λ i. is_name (class_at leaves i)) (leaves_in trees)

-- the classes of its leaves
abbrev pub words_in : List Leaf → Numbered → List ℕ
words_in leaves trees = map (class_at leaves) (leaves_in trees)

-- how many times a kind stands in a list of kinds
abbrev pub count_of : ℕ → List ℕ → ℕ
count_of kind kinds = length (filter (λ k. k == kind) kinds)

-- whether a leaf of a class is among them
abbrev pub has_word : ℕ → List Leaf → Numbered → Bool
has_word class leaves trees = list_any (λ c. c == class) (words_in leaves trees)
