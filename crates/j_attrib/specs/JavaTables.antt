-- The judgement of Java trees (JLS 6, 8, 14, 15), as tables: what a part is given, what is in scope for it, what a node
-- gives, and what it leaves in scope.
use Rattle.judged_trees.specs.Tables.{Tables}
use Rattle.j_attrib.specs.Around.{Around}
use Rattle.j_attrib.specs.Givens.{given_to}
use Rattle.j_attrib.specs.Rows.{value_of}
use Rattle.j_attrib.specs.Scopes.{left_in_scope, scope_for}
use Rattle.j_attrib.specs.declared.value.Given.{Given}
use Rattle.j_attrib.specs.declared.value.Value.{Value}

abbrev pub java_tables : Around → Tables Value Given
java_tables u = record {
  given_to = given_to u;
  scope_for = scope_for u;
  value_of = value_of u;
  left_in_scope = left_in_scope u;
}
