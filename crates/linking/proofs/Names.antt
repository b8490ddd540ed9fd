-- The type behind the brackets of a descriptor.
use Rattle.std.proofs.Common.{◌≡◌, ◌≢◌, ℕ, ◌≤◌, ◌<◌, List, [], ◌∷◌, Bool, true, false, length, drop, refl, arith}
use Rattle.std.specs.Prelude.{◌==◌, slice_index_or}
use Rattle.std.proofs.lemmas.Bool.{ne_eqb}
use Rattle.linking.specs.Members.{innermost}

pub behind_bracket : (text : List ℕ) → 1 ≤ length text → slice_index_or text 0 0 ≡ 91 → innermost text ≡ innermost (drop 1 text)
behind_bracket [] some is = absurd (omega arith)
behind_bracket (x ∷ text) some is = rw is refl

pub no_bracket : (text : List ℕ) → slice_index_or text 0 0 ≢ 91 → innermost text ≡ text
no_bracket [] other = refl
no_bracket (x ∷ text) other = rw (ne_eqb x 91 other) refl

pub no_text : (text : List ℕ) → length text < 1 → innermost text ≡ text
no_text [] none = refl
no_text (x ∷ text) none = absurd (omega arith)

pub ruleset bracket_steps = (behind_bracket, no_bracket, no_text)
