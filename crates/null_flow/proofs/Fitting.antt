-- Slots that are filled up to a size.
use Rattle.std.proofs.Common.{◌≡◌, ℕ, zero, suc, ◌-◌, ◌≤◌, Bool, false, List, [], ◌∷◌, ◌++◌, length, take, refl, sym, ap, ◌∙◌, arith}
use Rattle.std.specs.Prelude.{replicate, min}
use Rattle.std.proofs.lemmas.List.{take_min}

take_replicate : (size n : ℕ) → size ≤ n → take size (replicate n false) ≡ replicate size false
take_replicate zero n l = refl
take_replicate (suc size) zero l = absurd (omega arith)
take_replicate (suc size) (suc n) l = ap (λ xs. false ∷ xs) (take_replicate size n (omega arith))

parts : (size n : ℕ) (slots : List Bool) → size ≤ n → take size slots ++ replicate (size - length slots) false ≡ take size (slots ++ replicate n false)
parts zero n slots l = let e : 0 - length slots ≡ 0 = omega arith in rw e refl
parts (suc size) n [] l = let e : suc size - 0 ≡ suc size = omega arith in rw e (sym (take_replicate (suc size) n l))
parts (suc size) n (x ∷ xs) l = let e : suc size - suc (length xs) ≡ size - length xs = omega arith in rw e (ap (λ ys. x ∷ ys) (parts size n xs (omega arith)))

pub fitted_parts : (size : ℕ) (slots : List Bool) → take size slots ++ replicate (size - length slots) false ≡ take size (slots ++ replicate size false)
fitted_parts size slots = parts size size slots (omega arith)

cut_to : (size least : ℕ) (slots : List Bool) → least ≡ min size (length slots) → take least slots ≡ take size slots
cut_to size least slots e = ap (λ n. take n slots) e ∙ take_min size slots

-- as it is made
pub fitted_by :
    (size least left : ℕ) (slots none one two : List Bool) → none ≡ [] → one ≡ none ++ take least slots → two ≡ one ++ replicate left false
    → least ≡ min size (length slots) → left ≡ size - length slots → two ≡ take size (slots ++ replicate size false)
fitted_by size least left slots none one two empty first second low rest =
    let begun : one ≡ take size slots = first ∙ ap (λ xs. xs ++ take least slots) empty ∙ cut_to size least slots low in
    second ∙ ap (λ xs. xs ++ replicate left false) begun ∙ ap (λ n. take size slots ++ replicate n false) rest ∙ fitted_parts size slots
