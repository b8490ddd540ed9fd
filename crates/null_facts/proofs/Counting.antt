-- The sizes of frames, place by place.
use Rattle.std.proofs.Common.{◌≡◌, ℕ, zero, suc, ◌+◌, List, [], ◌∷◌, ◌++◌, map, drop, slice_get, Some, sym, ap, ◌∙◌, arith}
use Rattle.std.proofs.lemmas.List.{append_assoc}
use Rattle.kind_frames.specs.declared.fact.KindFact.{KindFact}
use Rattle.null_facts.specs.Program.{size_of}

drop_at : (xs : List KindFact) (n : ℕ) (x : KindFact) → slice_get xs n ≡ Some x → drop n xs ≡ x ∷ drop (suc n) xs
drop_at [] n x e = absurd cc
drop_at (y ∷ xs) zero x e = let same : y ≡ x = cc in ap (λ z. z ∷ xs) same
drop_at (y ∷ xs) (suc n) x e = drop_at xs n x e

pub sizes_next :
    (kinds : List KindFact) (pc : ℕ) (fact : KindFact) (size sum : ℕ) (sizes more whole : List ℕ) → slice_get kinds pc ≡ Some fact
    → size ≡ size_of fact → sum ≡ 0 + size → more ≡ sizes ++ sum ∷ [] → sizes ++ map size_of (drop pc kinds) ≡ whole
    → more ++ map size_of (drop (pc + 1) kinds) ≡ whole
sizes_next kinds pc fact size sum sizes more whole there is added pushed before =
    let next : pc + 1 ≡ suc pc = omega arith in
    let same : sum ≡ size_of fact = added ∙ ap (λ n. 0 + n) is ∙ omega arith in
    ap (λ xs. xs ++ map size_of (drop (pc + 1) kinds)) (pushed ∙ ap (λ n. sizes ++ n ∷ []) same)
    ∙ append_assoc sizes (size_of fact ∷ []) (map size_of (drop (pc + 1) kinds))
    ∙ ap (λ n. sizes ++ size_of fact ∷ map size_of (drop n kinds)) next
    ∙ ap (λ xs. sizes ++ map size_of xs) (sym (drop_at kinds pc fact there))
    ∙ before
