-- What can follow a byte in the texts of an expression (Brzozowski).
use Rattle.std.proofs.Common.{ℕ, Bool, true, false, cond, ◌&&◌, ◌||◌, List, [], ◌∷◌, eqb, leb}
use Rattle.rw_base.specs.Expressions.{Expression, nothing, empty, byte, ◌>>◌, ◌<|>◌, many}

-- the empty text is one of the expression
abbrev pub has_empty : Expression → Bool
has_empty nothing = false
has_empty empty = true
has_empty (byte least most) = false
has_empty (r >> q) = has_empty r && has_empty q
has_empty (r <|> q) = has_empty r || has_empty q
has_empty (many r) = true

abbrev pub same : Expression → Expression → Bool
same nothing nothing = true
same nothing _ = false
same empty empty = true
same empty _ = false
same (byte a b) (byte c d) = eqb a c && eqb b d
same (byte a b) _ = false
same (r >> q) (s >> t) = same r s && same q t
same (r >> q) _ = false
same (r <|> q) (s <|> t) = same r s && same q t
same (r <|> q) _ = false
same (many r) (many s) = same r s
same (many r) _ = false

-- one behind the other, and either, in a shorter form where there is one
abbrev pub then : Expression → Expression → Expression
then nothing q = nothing
then empty q = q
then r q = r >> q

abbrev pub either_short : Expression → Expression → Expression
either_short r nothing = r
either_short r q = cond (same r q) r (r <|> q)

abbrev pub either : Expression → Expression → Expression
either nothing q = q
either r q = either_short r q

-- what follows this byte
abbrev pub behind : ℕ → Expression → Expression
behind b nothing = nothing
behind b empty = nothing
behind b (byte least most) = cond (leb least b && leb b most) empty nothing
behind b (r >> q) = cond (has_empty r) (either (then (behind b r) q) (behind b q)) (then (behind b r) q)
behind b (r <|> q) = either (behind b r) (behind b q)
behind b (many r) = then (behind b r) (many r)

-- the same of each kind, without those in which nothing follows
abbrev pub kept : ℕ → Expression → List (ℕ × Expression) → List (ℕ × Expression)
kept class nothing rest = rest
kept class r rest = (class, r) ∷ rest

abbrev pub step : ℕ → List (ℕ × Expression) → List (ℕ × Expression)
step b [] = []
step b (kind ∷ rest) = kept kind.0 (behind b kind.1) (step b rest)

abbrev pub after : List ℕ → List (ℕ × Expression) → List (ℕ × Expression)
after [] kinds = kinds
after (b ∷ rest) kinds = after rest (step b kinds)

abbrev pub same_kinds : List (ℕ × Expression) → List (ℕ × Expression) → Bool
same_kinds [] [] = true
same_kinds [] (q ∷ rest) = false
same_kinds (p ∷ ps) [] = false
same_kinds (p ∷ ps) (q ∷ qs) = eqb p.0 q.0 && same p.1 q.1 && same_kinds ps qs
