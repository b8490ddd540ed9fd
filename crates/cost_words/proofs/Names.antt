-- The bytes of a name are its first byte and those of what stands behind it.
use Rattle.std.proofs.Common.{◌≡◌, ℕ, ◌<◌, Bool, true, false, cond, eqb, List, [], ◌∷◌, ◌++◌, length, Option, Some, None, refl, sym, ap, ◌∙◌, append_assoc, arith}
use Rattle.std.specs.Option.{option_map, option_and_then}
use Rattle.cost_words.specs.Target.{hex_byte, first_byte, name_of}

abbrev with_first : Option (ℕ × List ℕ) → Option (List ℕ)
with_first o = option_and_then (λ (p : ℕ × List ℕ). option_map (λ (name : List ℕ). p.0 ∷ name) (name_of p.1)) o

plain_is : (t : Bool) (b : ℕ) (text : List ℕ) → cond t None (option_map (λ (name : List ℕ). b ∷ name) (name_of text)) ≡ with_first (cond t None (Some (b, text)))
plain_is true b text = refl
plain_is false b text = refl

named_is : (o : Option ℕ) (text : List ℕ) → option_and_then (λ (byte : ℕ). option_map (λ (name : List ℕ). byte ∷ name) (name_of text)) o ≡ with_first (option_map (λ (byte : ℕ). (byte, text)) o)
named_is None text = refl
named_is (Some byte) text = refl

escaped_is : (t u : Bool) (o : Option ℕ) (b : ℕ) (next text : List ℕ)
    → cond t (cond u (option_and_then (λ (byte : ℕ). option_map (λ (name : List ℕ). byte ∷ name) (name_of text)) o) None) (option_map (λ (name : List ℕ). b ∷ name) (name_of next))
    ≡ with_first (cond t (cond u (option_map (λ (byte : ℕ). (byte, text)) o) None) (Some (b, next)))
escaped_is true true o b next text = named_is o text
escaped_is true false o b next text = refl
escaped_is false u o b next text = refl

name_of_is : (text : List ℕ) → 0 < length text → name_of text ≡ with_first (first_byte text)
name_of_is [] h = absurd (omega arith)
name_of_is (b ∷ []) h = plain_is (eqb b 92) b []
name_of_is (b ∷ x ∷ []) h = plain_is (eqb b 92) b (x ∷ [])
name_of_is (b ∷ x ∷ high ∷ []) h = plain_is (eqb b 92) b (x ∷ high ∷ [])
name_of_is (b ∷ x ∷ high ∷ low ∷ text) h = escaped_is (eqb b 92) (eqb x 120) (hex_byte high low) b (x ∷ high ∷ low ∷ text) text

-- ---- the loop

abbrev pub with_front : List ℕ → Option (List ℕ) → Option (List ℕ)
with_front front name = option_map (λ (n : List ℕ). front ++ n) name

front_more : (front : List ℕ) (b : ℕ) (o : Option (List ℕ)) → with_front (front ++ b ∷ []) o ≡ with_front front (option_map (λ (name : List ℕ). b ∷ name) o)
front_more front b None = refl
front_more front b (Some name) = ap Some (append_assoc front (b ∷ []) name)

abbrev pub first : ℕ → List ℕ → Option (ℕ × List ℕ)
first b behind = Some (b, behind)

of_first : (b : ℕ) (rest behind : List ℕ) → first b behind ≡ first_byte rest → name_of rest ≡ with_first (first b behind)
of_first b [] behind e = absurd cc
of_first b (a ∷ rest) behind e = name_of_is (a ∷ rest) (omega arith) ∙ ap with_first (sym e)

pub name_goes_on : (front rest text behind : List ℕ) (b : ℕ) → first b behind ≡ first_byte rest → with_front front (name_of rest) ≡ name_of text → with_front (front ++ b ∷ []) (name_of behind) ≡ name_of text
name_goes_on front rest text behind b e h = front_more front b (name_of behind) ∙ sym (ap (with_front front) (of_first b rest behind e)) ∙ h
