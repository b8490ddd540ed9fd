-- The operands of a maximum that are kept.
use Rattle.std.proofs.Common.{◌≡◌, Bool, true, false, List, [], ◌∷◌, ◌++◌, refl, sym, ◌∙◌, subst}
use Rattle.std.specs.Prelude.{◌&&◌, ◌||◌, not, All, if◌then◌else◌}
use Rattle.std.specs.List.{list_any}
use Rattle.std.proofs.lemmas.Bool.{or_parts}
use Rattle.std.proofs.lemmas.List.Elements.{All-nil, All-cons, All-head, All-tail, All-weaker}
use Rattle.std.proofs.lemmas.List.Folds.{list_any-append}
use Rattle.bound_forms.specs.Monomials.{Form}
use Rattle.bound_forms.specs.Maxima.{covers, is_needless, pruned}
use Rattle.bound_forms.proofs.Comparing.{some_covers}

-- ---- what holds of each operand
kept_by : (P : Form → Type 0) (b : Bool) (p : Form) (rest : List Form) → P p → All P rest → All P (if b then rest else p ∷ rest)
kept_by P true p rest x h = h
kept_by P false p rest x h = All-cons P p rest x h

pub all_pruned : (P : Form → Type 0) (before ps : List Form) → All P ps → All P (pruned before ps)
all_pruned P before [] h = All-nil P
all_pruned P before (p ∷ ps) h =
    kept_by P (is_needless before p ps) p (pruned (before ++ p ∷ []) ps) (All-head P p ps h) (all_pruned P (before ++ p ∷ []) ps (All-tail P p ps h))

-- ---- kept operands don't cover each other
abbrev pub Apart : List Form → Type 0
Apart [] = Unit {0}
Apart (p ∷ ps) = All (λ q. (covers p q ≡ false) × (covers q p ≡ false)) ps × Apart ps

pushed : (before : List Form) (q p : Form) → some_covers (before ++ q ∷ []) p ≡ false → (some_covers before p ≡ false) × (covers q p ≡ false)
pushed before q p h =
    let parts = or_parts (some_covers before p) (covers q p || false) (sym (list_any-append (λ r. covers r p) before (q ∷ [])) ∙ h) in
    (parts.0, (or_parts (covers q p) false parts.1).0)

-- nothing in front covers what is kept
uncovered_by : (b : Bool) (before : List Form) (p : Form) (rest : List Form) → (b ≡ false → some_covers before p ≡ false) → All (λ k. some_covers before k ≡ false) rest → All (λ k. some_covers before k ≡ false) (if b then rest else p ∷ rest)
uncovered_by true before p rest x h = h
uncovered_by false before p rest x h = All-cons (λ k. some_covers before k ≡ false) p rest (x refl) h

uncovered : (before ps : List Form) → All (λ k. some_covers before k ≡ false) (pruned before ps)
uncovered before [] = All-nil (λ k. some_covers before k ≡ false)
uncovered before (p ∷ ps) =
    uncovered_by (is_needless before p ps) before p (pruned (before ++ p ∷ []) ps) (λ e. (or_parts (some_covers before p) (list_any (λ q. covers q p && not (covers p q)) ps) e).0)
    (All-weaker (λ k. some_covers (before ++ p ∷ []) k ≡ false) (λ k. some_covers before k ≡ false) (λ k h. (pushed before p k h).0) (pruned (before ++ p ∷ []) ps) (uncovered (before ++ p ∷ []) ps))

none_exceeds : (p : Form) (ps : List Form) → list_any (λ q. covers q p && not (covers p q)) ps ≡ false → All (λ q. (covers q p && not (covers p q)) ≡ false) ps
none_exceeds p [] h = All-nil (λ q. (covers q p && not (covers p q)) ≡ false)
none_exceeds p (q ∷ ps) h =
    let parts = or_parts (covers q p && not (covers p q)) (list_any (λ q. covers q p && not (covers p q)) ps) h in
    All-cons (λ q. (covers q p && not (covers p q)) ≡ false) q ps parts.0 (none_exceeds p ps parts.1)

exceeds_not : (a b : Bool) → b ≡ false → (a && not b) ≡ false → a ≡ false
exceeds_not true true e h = absurd (cc)
exceeds_not true false e h = absurd (cc)
exceeds_not false b e h = refl

both : (P Q : Form → Type 0) (ps : List Form) → All P ps → All Q ps → All (λ q. P q × Q q) ps
both P Q ps h g k d l = (h k d l, g k d l)

apart_by : (b : Bool) (p : Form) (rest : List Form) → (b ≡ false → All (λ q. (covers p q ≡ false) × (covers q p ≡ false)) rest) → Apart rest → Apart (if b then rest else p ∷ rest)
apart_by true p rest f h = h
apart_by false p rest f h = (f refl, h)

pub pruned_apart : (before ps : List Form) → Apart (pruned before ps)
pruned_apart before [] = tt
pruned_apart before (p ∷ ps) =
    let rest = pruned (before ++ p ∷ []) ps in
    let Behind : Form → Type 0 = λ q. (covers q p && not (covers p q)) ≡ false in
    let front : All (λ q. covers p q ≡ false) rest = All-weaker (λ k. some_covers (before ++ p ∷ []) k ≡ false) (λ k. covers p k ≡ false) (λ k h. (pushed before p k h).1) rest (uncovered (before ++ p ∷ []) ps) in
    apart_by (is_needless before p ps) p rest
    (λ e. let behind : All Behind rest = all_pruned Behind (before ++ p ∷ []) ps (none_exceeds p ps (or_parts (some_covers before p) (list_any (λ q. covers q p && not (covers p q)) ps) e).1) in
    All-weaker (λ q. (covers p q ≡ false) × Behind q) (λ q. (covers p q ≡ false) × (covers q p ≡ false)) (λ q h. (h.0, exceeds_not (covers q p) (covers p q) h.0 h.1)) rest (both (λ q. covers p q ≡ false) Behind rest front behind))
    (pruned_apart (before ++ p ∷ []) ps)

-- so each is needed
at_middle : (P : Form → Type 0) (xs ys : List Form) (y : Form) → All P (xs ++ y ∷ ys) → P y
at_middle P [] ys y h = All-head P y ys h
at_middle P (x ∷ xs) ys y h = at_middle P xs ys y (All-tail P x (xs ++ y ∷ ys) h)

pub apart_needed : (before behind : List Form) (p : Form) → Apart (before ++ p ∷ behind) → All (λ q. covers q p ≡ false) (before ++ behind)
apart_needed [] behind p h = All-weaker (λ q. (covers p q ≡ false) × (covers q p ≡ false)) (λ q. covers q p ≡ false) (λ q g. g.1) behind h.0
apart_needed (b ∷ before) behind p h =
    All-cons (λ q. covers q p ≡ false) b (before ++ behind) (at_middle (λ q. (covers b q ≡ false) × (covers q b ≡ false)) before behind p h.0).0 (apart_needed before behind p h.1)

pub kept_needed : (ps kept before behind : List Form) (p : Form) → kept ≡ pruned [] ps → kept ≡ before ++ p ∷ behind → All (λ q. covers q p ≡ false) (before ++ behind)
kept_needed ps kept before behind p is split = apart_needed before behind p (subst Apart (sym is ∙ split) (pruned_apart [] ps))
