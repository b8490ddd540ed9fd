-- Where an atom has its place among others.
use Rattle.std.specs.Prelude.{ℕ, zero, suc, List, [], ◌∷◌}
use Rattle.std.specs.Ordering.{nat_cmp}
use Rattle.std.specs.Cmp.Lexicographic.{slice_cmp}
use Rattle.std.specs.declared.cmp.Ordering.{Ordering}
use Rattle.std.specs.declared.cmp.Ordering.TheVariants.{Less, Equal, Greater}

-- how many go before it
abbrev pub place_by : Ordering → ℕ → ℕ
place_by Less n = zero
place_by Equal n = zero
place_by Greater n = suc n

abbrev pub key_place : List ℕ → List (List ℕ) → ℕ
key_place key [] = zero
key_place key (k ∷ ks) = place_by (slice_cmp nat_cmp key k) (key_place key ks)
