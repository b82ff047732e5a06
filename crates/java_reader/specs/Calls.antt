-- The calls and creations with arguments among trees, in the order of their name leaves: method invocations (15.12 in
-- the Java Language Specification), class instance creations (15.9), and the calls of constructors that begin a
-- constructor (8.8.7.1). In all of them the name is the last leaf before the arguments that isn't in type arguments.
-- Here c tells the class of each leaf.
use Rattle.std.specs.Prelude.{ℕ, ◌+◌, ◌==◌, Bool, true, false, ◌||◌, ◌&&◌, nat_le, nat_lt, List, [], ◌∷◌, ◌++◌}
use Rattle.std.specs.Prelude.{Option, Some, None, if◌then◌else◌}
use Rattle.rw_base.specs.Trees.{Numbered, none, leaf, node}
use Rattle.rw_base.specs.Arena.{Arena}
use Rattle.rw_base.specs.Laid.{kids_of}
use Rattle.rw_grammar.specs.Results.{class_in}
use Rattle.java_lex.specs.declared.class.TheConstants.{NEW, THIS, SUPER}
use Rattle.java_reader.specs.declared.call.TheConstants.{PRIMARY, SELECTOR, DOT, CREATOR, NEW_TYPE, NEW_REST, ARGS}
use Rattle.java_reader.specs.declared.call.CallView.{CallView}
use Rattle.java_reader.specs.declared.call.Seen.{Seen}
use Rattle.java_reader.specs.declared.unit.UnitRef.{UnitRef}

-- A Dot, Creator, NewType or NewRest: its parts count as parts of the Primary or Selector around it.
abbrev pub opens : ℕ → Bool
opens k = (k == DOT) || (k == CREATOR) || (k == NEW_TYPE) || (k == NEW_REST)

-- A leaf that begins a creation: calls of `this` and `super` are creations too.
abbrev pub creates : ℕ → Bool
creates x = (x == NEW) || (x == THIS) || (x == SUPER)

-- What was seen of a call so far: its name, whether it is a creation, and its arguments, behind which nothing counts.
abbrev pub nothing : Seen
nothing = record { name = None; is_new = false; args = None }

abbrev pub found : Seen → Bool
found s = is_some s.args
  where
    is_some : Option ℕ → Bool
    is_some None = false
    is_some (Some a) = true

-- The last leaf before the arguments is the name.
abbrev pub with_leaf : (ℕ → ℕ) → Seen → ℕ → Seen
with_leaf c s l = if found s then s else record { name = Some l; is_new = s.is_new || creates (c l); args = None }

abbrev pub with_args : Seen → ℕ → Seen
with_args s a = if found s then s else record { name = s.name; is_new = s.is_new; args = Some a }

-- The name and the arguments among the parts of a Primary or Selector.
unfoldable pub seen_in : (ℕ → ℕ) → Seen → Numbered → Seen
seen_in c s none = s
seen_in c s (leaf l f) = seen_in c (with_leaf c s l) f
seen_in c s (node a k kids f) =
    let inner = seen_in c s kids in
    seen_in c (if k == ARGS then with_args s a else if opens k then inner else s) f

-- What is seen with a node.
abbrev pub with_node : (ℕ → ℕ) → Seen → ℕ → ℕ → Numbered → Seen
with_node c s a k kids = if k == ARGS then with_args s a else if opens k then seen_in c s kids else s

-- The call that ends at part `part` of a node, behind so many parts of its receiver, where there are a name and
-- arguments.
abbrev pub call_at : ℕ → ℕ → ℕ → Seen → List CallView
call_at n part receiver s = by_both s.name s.args
  where
    by_both : Option ℕ → Option ℕ → List CallView
    by_both None a = []
    by_both (Some l) None = []
    by_both (Some l) (Some a) = record {
      node = record { 0 = n };
      part = part;
      receiver = receiver;
      name_leaf = l;
      args = record { 0 = a };
      is_new = s.is_new;
    } ∷ []

-- The call of node m of kind k itself, part p of node n: of a Primary, or of a Selector with all parts before it as
-- receiver.
abbrev pub own_call : (ℕ → ℕ) → ℕ → ℕ → ℕ → ℕ → Numbered → List CallView
own_call c n p m k kids =
    if k == PRIMARY then call_at m 1 0 (seen_in c nothing kids)
    else if k == SELECTOR then call_at n p p (seen_in c nothing kids)
    else []

-- The calls of trees that are the parts of node n from part p on: that of each node before those in it.
unfoldable pub calls_in : (ℕ → ℕ) → ℕ → ℕ → Numbered → List CallView
calls_in c n p none = []
calls_in c n p (leaf l f) = calls_in c n (p + 1) f
calls_in c n p (node m k kids f) =
    let inner = calls_in c m 0 kids in
    own_call c n p m k kids ++ (inner ++ calls_in c n (p + 1) f)

-- The calls of node m of kind k, part p of node n: its own and those in it.
abbrev pub node_calls : (ℕ → ℕ) → ℕ → ℕ → ℕ → ℕ → Numbered → List CallView
node_calls c n p m k kids = own_call c n p m k kids ++ calls_in c m 0 kids

-- those whose name leaf lies from leaf `first` on to before leaf `past`
unfoldable pub within : ℕ → ℕ → List CallView → List CallView
within first past [] = []
within first past (v ∷ vs) =
    if nat_le first v.name_leaf && nat_lt v.name_leaf past then v ∷ within first past vs else within first past vs

-- the calls of a file, and of one unit
abbrev pub all_calls : Arena → List CallView
all_calls t = calls_in (class_in t.leaves) t.root 0 (kids_of t.nodes t.root)

unfoldable pub calls_of : Arena → UnitRef → List CallView
calls_of t u = within u.first u.past (all_calls t)
