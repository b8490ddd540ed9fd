-- Classes and their superclasses, step by step.
use Rattle.std.proofs.Common.{◌≡◌, ℕ, zero, suc, ◌+◌, ◌-◌, ◌<◌, Bool, true, false, ◌||◌, List, [], ◌∷◌, ◌++◌, length, Option, Some, None, arith, refl, sym, ap, ◌∙◌, append_assoc, append-nil}
use Rattle.std.specs.List.{flat_map, list_any}
use Rattle.std.proofs.lemmas.List.Folds.{list_any-append}
use Rattle.class_hierarchy.specs.World.{World, superclass, line, line_from, above, superinterfaces, ancestors}
use Rattle.class_hierarchy.specs.Tables.{SameFirst, with_above}

pub line_ends : (w : World) (n : ℕ) → line_from w n None ≡ []
unfolding line_from
line_ends w zero = refl
line_ends w (suc n) = refl

pub line_goes : (w : World) (n c : ℕ) → line_from w (suc n) (Some c) ≡ c ∷ line_from w n (superclass w c)
unfolding line_from
line_goes w n c = refl

pub line_stops : (w : World) (c : Option ℕ) → line_from w zero c ≡ []
unfolding line_from
line_stops w c = refl

pub line_at_end : (w : World) (found all : List ℕ) (n : ℕ) → found ++ line_from w n None ≡ all → found ≡ all
line_at_end w found all n e = sym (append-nil found) ∙ ap (λ l. found ++ l) (sym (line_ends w n)) ∙ e

pub line_at_stop : (w : World) (found all : List ℕ) (n : ℕ) (c : Option ℕ) → n ≡ 0 → found ++ line_from w n c ≡ all → found ≡ all
line_at_stop w found all n c z e =
    let stop : line_from w n c ≡ [] = rw z (line_stops w c) in
    sym (append-nil found) ∙ ap (λ l. found ++ l) (sym stop) ∙ e

pub line_next : (w : World) (found all next : List ℕ) (total i c : ℕ) → i < total → found ++ line_from w (total - i) (Some c) ≡ all → next ≡ found ++ c ∷ [] → next ++ line_from w (total - (i + 1)) (superclass w c) ≡ all
line_next w found all next total i c h e g =
    let less : total - i ≡ suc (total - (i + 1)) = omega arith in
    ap (λ l. l ++ line_from w (total - (i + 1)) (superclass w c)) g
    ∙ append_assoc found (c ∷ []) (line_from w (total - (i + 1)) (superclass w c))
    ∙ ap (λ l. found ++ l) (sym (line_goes w (total - (i + 1)) c))
    ∙ ap (λ n. found ++ line_from w n (Some c)) (sym less)
    ∙ e

pub ruleset line_steps = (line_at_end, line_at_stop, line_next)

-- ---- what stands above the class and its superclasses

pub superinterfaces_by : (w : World) (c : ℕ) (v l : List ℕ) → l ≡ line w c → SameFirst v (flat_map (above w) l) → SameFirst v (superinterfaces w c)
unfolding superinterfaces
superinterfaces_by w c v l e f = rw (← e) f

pub ancestors_by : (w : World) (c : ℕ) (v l : List ℕ) → l ≡ line w c → SameFirst v (flat_map (with_above w) l) → SameFirst v (ancestors w c)
unfolding ancestors
ancestors_by w c v l e f = rw (← e) f

-- ---- a class or what stands above it

any_goes : (w : World) (p : ℕ → Bool) (n c : ℕ) → list_any p (flat_map (λ d. d ∷ above w d) (line_from w (suc n) (Some c))) ≡ (list_any p (c ∷ above w c) || list_any p (flat_map (λ d. d ∷ above w d) (line_from w n (superclass w c))))
any_goes w p n c = rw (line_goes w n c) (list_any-append p (c ∷ above w c) (flat_map (λ d. d ∷ above w d) (line_from w n (superclass w c))))

pub below_start : (w : World) (p : ℕ → Bool) (c : ℕ) → list_any p (ancestors w c) ≡ list_any p (flat_map (λ d. d ∷ above w d) (line_from w (length w - 0) (Some c)))
unfolding ancestors
below_start w p c = let all : length w - 0 ≡ length w = omega arith in rw all refl

pub below_here : (w : World) (p : ℕ → Bool) (total i c : ℕ) (r : Bool) → i < total → r ≡ list_any p (flat_map (λ d. d ∷ above w d) (line_from w (total - i) (Some c))) → true ≡ list_any p (c ∷ above w c) → true ≡ r
below_here w p total i c r h e here =
    let less : total - i ≡ suc (total - (i + 1)) = omega arith in
    sym (e ∙ ap (λ k. list_any p (flat_map (λ d. d ∷ above w d) (line_from w k (Some c)))) less ∙ any_goes w p (total - (i + 1)) c ∙ ap (λ b. b || list_any p (flat_map (λ d. d ∷ above w d) (line_from w (total - (i + 1)) (superclass w c)))) (sym here))

pub below_next : (w : World) (p : ℕ → Bool) (total i c : ℕ) (r : Bool) → i < total → r ≡ list_any p (flat_map (λ d. d ∷ above w d) (line_from w (total - i) (Some c))) → false ≡ list_any p (c ∷ above w c) → r ≡ list_any p (flat_map (λ d. d ∷ above w d) (line_from w (total - (i + 1)) (superclass w c)))
below_next w p total i c r h e miss =
    let less : total - i ≡ suc (total - (i + 1)) = omega arith in
    e ∙ ap (λ k. list_any p (flat_map (λ d. d ∷ above w d) (line_from w k (Some c)))) less ∙ any_goes w p (total - (i + 1)) c ∙ ap (λ b. b || list_any p (flat_map (λ d. d ∷ above w d) (line_from w (total - (i + 1)) (superclass w c)))) (sym miss)

pub below_none : (w : World) (p : ℕ → Bool) (n : ℕ) (r : Bool) → r ≡ list_any p (flat_map (λ d. d ∷ above w d) (line_from w n None)) → false ≡ r
below_none w p n r e = sym (e ∙ ap (λ l. list_any p (flat_map (λ d. d ∷ above w d) l)) (line_ends w n))

pub below_stop : (w : World) (p : ℕ → Bool) (n : ℕ) (c : Option ℕ) (r : Bool) → n ≡ 0 → r ≡ list_any p (flat_map (λ d. d ∷ above w d) (line_from w n c)) → false ≡ r
below_stop w p n c r z e =
    let stop : line_from w n c ≡ [] = rw z (line_stops w c) in
    sym (e ∙ ap (λ l. list_any p (flat_map (λ d. d ∷ above w d) l)) stop)
