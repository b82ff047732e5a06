-- Finding words and nodes among the parts of a node, not in the parts of these.
use Rattle.std.specs.Prelude.{ℕ, ◌+◌, ◌==◌, ◌||◌, List, [], ◌∷◌, ◌++◌, Bool, true, false, Option, None, Some}
use Rattle.std.specs.Prelude.{is_some, if◌then◌else◌}
use Rattle.rw_base.specs.declared.tree.NodeId.{NodeId}
use Rattle.rw_base.specs.Arena.{Arena, kind_of, leaf_at, text_of}
use Rattle.rw_base.specs.Trees.{none, leaf, node}
use Rattle.java_lex.specs.declared.class.TheConstants.{ID}
use Rattle.class_table.specs.declared.kinds.TheConstants.{TYPE, CLASS_TYPE}
use Rattle.class_table.specs.Words.{Word, Parts, word_of, parts_at}

-- the first word of a class
abbrev pub word_in : ℕ → Parts → Option Word
word_in c none = None
word_in c (leaf w f) = if w.class == c then Some w else word_in c f
word_in c (node _ k kids f) = word_in c f

abbrev pub text_or_empty : Option Word → List ℕ
text_or_empty None = []
text_or_empty (Some w) = w.text

-- whether there is a word of a class, and the first identifier
abbrev pub has : ℕ → Parts → Bool
has c ps = is_some (word_in c ps)

abbrev pub name_in : Parts → List ℕ
name_in ps = text_or_empty (word_in ID ps)

-- a node: its kind and its parts
abbrev pub Node : Type 0
Node = ℕ × Parts

-- the first node of a kind
abbrev pub node_in : ℕ → Parts → Option Node
node_in c none = None
node_in c (leaf w f) = node_in c f
node_in c (node _ k kids f) = if k == c then Some (k, kids) else node_in c f

-- the first node behind a word of a class; `behind` tells whether the word before is of the class
abbrev pub node_behind : ℕ → Bool → Parts → Option Node
node_behind c behind none = None
node_behind c behind (leaf w f) = node_behind c (w.class == c) f
node_behind c behind (node _ k kids f) = if behind then Some (k, kids) else node_behind c behind f

-- the kinds of types (JLS 4), and the first type
abbrev pub is_type : ℕ → Bool
is_type k = k == TYPE || k == CLASS_TYPE

abbrev pub type_in : Parts → Option Node
type_in none = None
type_in (leaf w f) = type_in f
type_in (node _ k kids f) = if is_type k then Some (k, kids) else type_in f

-- how many nodes of a kind there are
abbrev pub count_in : ℕ → Parts → ℕ
count_in c none = 0
count_in c (leaf w f) = count_in c f
count_in c (node _ k kids f) = (if k == c then 1 else 0) + count_in c f

-- what is taken of each node, by its kind and its parts
abbrev pub of_nodes : {A : Type 0} → (ℕ → Parts → List A) → Parts → List A
of_nodes g none = []
of_nodes g (leaf w f) = of_nodes g f
of_nodes g (node _ k kids f) = g k kids ++ of_nodes g f

-- what the numbers stand for that the code finds
abbrev pub word_at : Arena → List ℕ → Option ℕ → Option Word
word_at t bytes None = None
word_at t bytes (Some i) = Some (word_of t bytes i)

abbrev pub node_at : Arena → List ℕ → Option NodeId → Option Node
node_at t bytes None = None
node_at t bytes (Some n) = Some (kind_of t.nodes n.0, parts_at t bytes n.0)
