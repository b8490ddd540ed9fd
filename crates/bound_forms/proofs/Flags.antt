-- Which operands are needless, one after another.
use Rattle.std.proofs.Common.{ℕ, suc, ◌≡◌, ◌+◌, ◌-◌, ◌<◌, Bool, true, false, List, [], ◌∷◌, ◌++◌, length, get_or, take, drop, refl, sym, ◌∙◌, ap, subst, arith}
use Rattle.std.specs.Prelude.{◌||◌, All, if◌then◌else◌}
use Rattle.std.specs.List.{take-map, drop-map}
use Rattle.std.specs.Global.{Vec}
use Rattle.std.proofs.lemmas.List.{drop_more, take_more, map_push, append_assoc, get_or-map, length-map, take_rest}
use Rattle.std.proofs.lemmas.List.Elements.{All-take, All-drop, All-same}
use Rattle.bound_terms.specs.declared.bound.Bound.{Bound}
use Rattle.bound_forms.specs.Monomials.{Form}
use Rattle.bound_forms.specs.Maxima.{is_needless, pruned}
use Rattle.bound_forms.specs.Normal.{Rising}
use Rattle.bound_forms.specs.Coded.{coded_form}
use Rattle.bound_forms.specs.Answered.{coded_forms}
use Rattle.bound_forms.specs.inside.Pruning.{needless_of, unflagged}

abbrev Made : Type 0
Made = Vec (ℕ × List Bound)

abbrev form_at : Made → Form
form_at f = coded_form f.items

-- ---- operands that are in order
pub rising_at : (ops : List Made) (i : ℕ) (q : Made) (items : List (ℕ × List Bound)) → All Rising (coded_forms ops) → i < length ops → q ≡ get_or ops i q → items ≡ q.items → Rising (coded_form items)
rising_at ops i q items all h is same =
    let within : i < length (coded_forms ops) = omega (arith, length-map ops form_at) in
    let there : form_at q ≡ get_or (coded_forms ops) i (form_at q) = ap form_at is ∙ sym (get_or-map form_at ops i q (form_at q) h) in
    subst Rising (sym there ∙ sym (ap coded_form same)) (all i (form_at q) within)

pub rising_front : (ops : List Made) (i : ℕ) → All Rising (coded_forms ops) → All Rising (coded_forms (take i ops))
rising_front ops i all = All-same Rising (coded_forms (take i ops)) (take i (coded_forms ops)) (sym (take-map form_at i ops)) (All-take Rising i (coded_forms ops) all)

pub rising_behind : (ops : List Made) (i : ℕ) → All Rising (coded_forms ops) → All Rising (coded_forms (take (length ops - (i + 1)) (drop (i + 1) ops)))
rising_behind ops i all =
    All-same Rising (coded_forms (take (length ops - (i + 1)) (drop (i + 1) ops))) (drop (i + 1) (coded_forms ops)) (ap coded_forms (take_rest ops (i + 1)) ∙ sym (drop-map form_at (i + 1) ops)) (All-drop Rising (i + 1) (coded_forms ops) all)

-- ---- one flag more
pub flags_go : (ops : List Made) (i : ℕ) (x : Made) (items : List (ℕ × List Bound)) (flags now : List Bool) (b : Bool) (all : List Bool) → i < length ops → x ≡ get_or ops i x → items ≡ x.items
    → b ≡ is_needless (coded_forms (take i ops)) (coded_form items) (coded_forms (take (length ops - (i + 1)) (drop (i + 1) ops)))
    → now ≡ flags ++ b ∷ []
    → flags ++ needless_of (coded_forms (take i ops)) (coded_forms (drop i ops)) ≡ all
    → now ++ needless_of (coded_forms (take (i + 1) ops)) (coded_forms (drop (i + 1) ops)) ≡ all
flags_go ops i x items flags now b all h is same flag pushed was =
    let front = coded_forms (take i ops) in
    let rest = coded_forms (drop (i + 1) ops) in
    let p = form_at x in
    let split : drop i ops ≡ x ∷ drop (i + 1) ops = drop_more ops i x h ∙ ap (λ y. y ∷ drop (i + 1) ops) (sym is) in
    let more : coded_forms (take (i + 1) ops) ≡ front ++ p ∷ [] = ap coded_forms (take_more ops i x h ∙ ap (λ y. take i ops ++ y ∷ []) (sym is)) ∙ map_push form_at (take i ops) x in
    let this : b ≡ is_needless front p rest = flag ∙ ap (λ y. is_needless front y (coded_forms (take (length ops - (i + 1)) (drop (i + 1) ops)))) (ap coded_form same) ∙ ap (λ y. is_needless front p (coded_forms y)) (take_rest ops (i + 1)) in
    ap (λ y. now ++ needless_of y rest) more
    ∙ ap (λ y. y ++ needless_of (front ++ p ∷ []) rest) pushed
    ∙ append_assoc flags (b ∷ []) (needless_of (front ++ p ∷ []) rest)
    ∙ ap (λ y. flags ++ y ∷ needless_of (front ++ p ∷ []) rest) this
    ∙ ap (λ y. flags ++ needless_of front (coded_forms y)) (sym split)
    ∙ was

pub covered_flag : (b covered exceeded : Bool) → b ≡ true → covered ≡ true → b ≡ (covered || exceeded)
covered_flag b covered exceeded e h = e ∙ sym (ap (λ c. c || exceeded) h)

pub exceeded_flag : (b covered exceeded : Bool) → b ≡ exceeded → covered ≡ false → b ≡ (covered || exceeded)
exceeded_flag b covered exceeded e h = e ∙ sym (ap (λ c. c || exceeded) h)

-- ---- what is kept
pub as_many_flags : (before ps : List Form) → length (needless_of before ps) ≡ length ps
as_many_flags before [] = refl
as_many_flags before (p ∷ ps) = ap suc (as_many_flags (before ++ p ∷ []) ps)

pub unflagged_is : (before ps : List Form) → unflagged (needless_of before ps) ps ≡ pruned before ps
unflagged_is before [] = refl
unflagged_is before (p ∷ ps) = ap (λ rest. if is_needless before p ps then rest else p ∷ rest) (unflagged_is (before ++ p ∷ []) ps)

pub kept_begins : (ops rest kept : List Made) (flags : List Bool) → flags ≡ needless_of [] (coded_forms ops) → rest ≡ ops → kept ≡ []
    → (length flags ≡ 0 + length rest) × (coded_forms kept ++ unflagged flags (coded_forms rest) ≡ pruned [] (coded_forms ops))
kept_begins ops rest kept flags flagged is none = (
  omega (arith, ap length flagged, as_many_flags [] (coded_forms ops), length-map ops form_at, ap length is),
  ap (λ ks. coded_forms ks ++ unflagged flags (coded_forms rest)) none ∙ ap (λ bs. unflagged bs (coded_forms rest)) flagged ∙ ap (λ xs. unflagged (needless_of [] (coded_forms ops)) (coded_forms xs)) is ∙ unflagged_is [] (coded_forms ops),
)
