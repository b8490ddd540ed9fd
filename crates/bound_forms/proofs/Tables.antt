-- An entry that is put into a table is a monomial that is put into a form.
use Rattle.std.proofs.Common.{ℕ, zero, suc, ◌≡◌, ◌<◌, ◌≤◌, Bool, true, false, cond, List, [], ◌∷◌, ◌++◌, length, map, append_assoc, refl, sym, ◌∙◌, ap, subst, arith}
use Rattle.std.specs.Prelude.{nat_le, ◌||◌, slice_index_or, Ok, Err, All, Option, Some, None}
use Rattle.std.specs.Global.{Vec}
use Rattle.std.specs.Cmp.{IsTotalOrder}
use Rattle.std.specs.Cmp.Lexicographic.{slice_cmp}
use Rattle.std.specs.Ordering.{nat_cmp, ordering_then, match_ordering, is_eq, MatchOrdering}
use Rattle.std.specs.declared.cmp.Ordering.{Ordering}
use Rattle.std.specs.declared.cmp.Ordering.TheVariants.{Less, Equal, Greater}
use Rattle.std.specs.Map.{lookup, keys_of}
use Rattle.std.specs.BTreeMap.{insert_entry, is_at}
use Rattle.std.specs.List.Sorted.{IsStrictlySortedBy}
use Rattle.std.specs.List.{AllByRecursion, list_any}
use Rattle.std.proofs.lemmas.Cmp.{nat_cmp_total, on_total, then_total, lists_total, nat_list_cmp_total}
use Rattle.std.proofs.lemmas.List.{length-map, append-nil}
use Rattle.std.proofs.lemmas.Cmp.{ranked}
use Rattle.std.proofs.lemmas.Bool.{le-leb}
use Rattle.bound_terms.specs.declared.bound.Bound.{Bound}
use Rattle.bound_terms.specs.Bounds.{term_of}
use Rattle.bound_forms.specs.declared.fault.BoundFault.{BoundFault}
use Rattle.bound_forms.specs.declared.fault.BoundFault.TheVariants.{Monomials, Coefficient, Memory}
use Rattle.bound_forms.specs.Monomials.{Monomial, Form, atom_key, atom_order, atoms_order, put_by, put}
use Rattle.bound_forms.specs.Limits.{most_monomials, past_limit}
use Rattle.bound_forms.specs.Coded.{coded}
use Rattle.bound_forms.specs.Answered.{Passes, IsSmall}
use Rattle.bound_forms.specs.inside.Passing.{HasRoom, Limited}
use Rattle.bound_forms.specs.inside.Entries.{Key, Scaled, Entry, AreKeys, key_order, IsKeyed, entry_value, entries_values, entry_monomial, entries_form, with_old}

-- ---- the order of keys
slice_cmp-map : {X Y : Type 0} (f : X → Y) (R : Y → Y → Ordering) (xs ys : List X) → slice_cmp (λ x y. R (f x) (f y)) xs ys ≡ slice_cmp R (map f xs) (map f ys)
slice_cmp-map f R [] [] = refl
slice_cmp-map f R [] (y ∷ ys) = refl
slice_cmp-map f R (x ∷ xs) [] = refl
slice_cmp-map f R (x ∷ xs) (y ∷ ys) = ap (ordering_then (R (f x) (f y))) (slice_cmp-map f R xs ys)

key_items : List (Vec ℕ) → List (List ℕ)
key_items ks = map (λ (k : Vec ℕ). k.items) ks

pub by_keys : (ks ls : List (Vec ℕ)) (xs ys : List Bound) → AreKeys ks xs → AreKeys ls ys → slice_cmp (λ (x y : Vec ℕ). slice_cmp nat_cmp x.items y.items) ks ls ≡ slice_cmp atom_order (map term_of xs) (map term_of ys)
by_keys ks ls xs ys are too =
    slice_cmp-map (λ (k : Vec ℕ). k.items) (slice_cmp nat_cmp) ks ls
    ∙ ap (λ zs. slice_cmp (slice_cmp nat_cmp) zs (map (λ (k : Vec ℕ). k.items) ls)) are
    ∙ ap (λ zs. slice_cmp (slice_cmp nat_cmp) (map atom_key (map term_of xs)) zs) too
    ∙ sym (slice_cmp-map atom_key (slice_cmp nat_cmp) (map term_of xs) (map term_of ys))

counted : (ks : List (Vec ℕ)) (xs : List Bound) → AreKeys ks xs → length ks ≡ length (map term_of xs)
counted ks xs are = sym (length-map ks (λ (k : Vec ℕ). k.items)) ∙ ap length are ∙ length-map (map term_of xs) atom_key

pub order_of_keys : (e f : Entry) → IsKeyed e → IsKeyed f → key_order e.0 f.0 ≡ atoms_order (entry_monomial e).atoms (entry_monomial f).atoms
order_of_keys e f ke kf =
    let a = map term_of e.1.1.items in
    let b = map term_of f.1.1.items in
    ap (λ o. ordering_then (nat_cmp e.0.0 f.0.0) o) (by_keys e.0.1.items f.0.1.items e.1.1.items f.1.1.items ke.keys kf.keys)
    ∙ ap (λ n. ordering_then (nat_cmp n f.0.0) (slice_cmp atom_order a b)) (ke.count ∙ counted e.0.1.items e.1.1.items ke.keys)
    ∙ ap (λ n. ordering_then (nat_cmp (length a) n) (slice_cmp atom_order a b)) (kf.count ∙ counted f.0.1.items f.1.1.items kf.keys)

-- as many keys, and these in order
pub order_of_as_many : (ks ls : List (Vec ℕ)) (xs ys : List Bound) (o : Ordering) → AreKeys ks xs → AreKeys ls ys → nat_cmp (length ks) (length ls) ≡ Equal → o ≡ slice_cmp (λ (x y : Vec ℕ). slice_cmp nat_cmp x.items y.items) ks ls → o ≡ atoms_order (map term_of xs) (map term_of ys)
order_of_as_many ks ls xs ys o are too same is =
    let a = map term_of xs in
    let b = map term_of ys in
    is ∙ by_keys ks ls xs ys are too
    ∙ ap (λ p. ordering_then p (slice_cmp atom_order a b)) (sym same)
    ∙ ap (λ n. ordering_then (nat_cmp n (length ls)) (slice_cmp atom_order a b)) (counted ks xs are)
    ∙ ap (λ n. ordering_then (nat_cmp (length a) n) (slice_cmp atom_order a b)) (counted ls ys too)

pub key_order_total : IsTotalOrder key_order
key_order_total = then_total (on_total (λ (k : Key). k.0) nat_cmp_total) (on_total (λ (k : Key). k.1.items) (lists_total (on_total (λ (x : Vec ℕ). x.items) nat_list_cmp_total)))

-- ---- what is below a key stands nowhere behind it
not_equal : (o : Ordering) → o ≡ Less → is_eq o ≡ false
not_equal o e = ap is_eq e

none_behind : (k : Key) (es : List Entry) → AllByRecursion (λ y. key_order k y ≡ Less) (keys_of es) → lookup (is_at (key_order k)) es ≡ None
none_behind k [] h = refl
none_behind k (e ∷ es) h = ap (λ b. cond b (Some e.1) (lookup (is_at (key_order k)) es)) (not_equal (key_order k e.0) h.0) ∙ none_behind k es h.1

further : (k l : Key) (ks : List Key) → key_order k l ≡ Less → AllByRecursion (λ y. key_order l y ≡ Less) ks → AllByRecursion (λ y. key_order k y ≡ Less) ks
further k l [] h all = tt
further k l (x ∷ ks) h all = (key_order_total.trans k l x h all.0, further k l ks h all.1)

none_below : (k : Key) (e : Entry) (es : List Entry) → IsStrictlySortedBy key_order (keys_of (e ∷ es)) → key_order k e.0 ≡ Less → lookup (is_at (key_order k)) es ≡ None
unfolding IsStrictlySortedBy
none_below k e es sorted h = none_behind k es (further k e.0 (keys_of es) h sorted.0)

sorted_behind : (e : Entry) (es : List Entry) → IsStrictlySortedBy key_order (keys_of (e ∷ es)) → IsStrictlySortedBy key_order (keys_of es)
unfolding IsStrictlySortedBy
sorted_behind e es sorted = sorted.1

-- ---- lists of entries
all_here : {X : Type 0} (P : X → Type 0) (x : X) (xs : List X) → All P (x ∷ xs) → P x
all_here P x xs all = all 0 x (omega arith)

all_behind : {X : Type 0} (P : X → Type 0) (x : X) (xs : List X) → All P (x ∷ xs) → All P xs
all_behind P x xs all = λ k d h. all (suc k) d (omega (arith, h))

all_with : {X : Type 0} (P : X → Type 0) (x : X) (xs : List X) → P x → All P xs → All P (x ∷ xs)
all_with {X = X} P x xs p all = λ k d h. at k d h
  where
    at : (k : ℕ) (d : X) → k < suc (length xs) → P (slice_index_or (x ∷ xs) k d)
    at zero d h = p
    at (suc k) d h = all k d (omega (arith, h))

-- ---- an entry put into its place
put_step : (o : Ordering) (e : Entry) (sum : ℕ) (f : Entry) (es inserted : List Entry) (found : Option Scaled) (behind : Form)
    → (o ≡ Less → found ≡ None)
    → (sum ≡ with_old e.1.0 found → entries_form inserted ≡ behind)
    → sum ≡ with_old e.1.0 (cond (is_eq o) (Some f.1) found)
    → entries_form (match_ordering o ((e.0, (sum, e.1.1)) ∷ f ∷ es) ((f.0, (sum, e.1.1)) ∷ es) (f ∷ inserted)) ≡ put_by o (entry_monomial e) (entry_monomial f) (entries_form es) behind
put_step Less e sum f es inserted found behind less later is =
    ap (λ (n : ℕ). entry_monomial (e.0, (n, e.1.1)) ∷ entry_monomial f ∷ entries_form es) (is ∙ ap (with_old e.1.0) (less refl))
put_step Equal e sum f es inserted found behind less later is = ap (λ (n : ℕ). entry_monomial (f.0, (n, e.1.1)) ∷ entries_form es) is
put_step Greater e sum f es inserted found behind less later is = ap (λ (p : Form). entry_monomial f ∷ p) (later is)

-- an entry, with what was there added, is put like its monomial
put_entry : (e : Entry) (sum : ℕ) (es : List Entry) → IsKeyed e → All IsKeyed es → IsStrictlySortedBy key_order (keys_of es) → sum ≡ with_old e.1.0 (lookup (is_at (key_order e.0)) es)
    → entries_form (insert_entry key_order es e.0 (sum, e.1.1)) ≡ put (entry_monomial e) (entries_form es)
put_entry e sum [] ke all sorted is = ap (λ (n : ℕ). entry_monomial (e.0, (n, e.1.1)) ∷ []) is
put_entry e sum (f ∷ es) ke all sorted is =
    put_step (key_order e.0 f.0) e sum f es (insert_entry key_order es e.0 (sum, e.1.1)) (lookup (is_at (key_order e.0)) es) (put (entry_monomial e) (entries_form es))
    (none_below e.0 f es sorted) (put_entry e sum es ke (all_behind IsKeyed f es all) (sorted_behind f es sorted)) is
    ∙ ap (λ o. put_by o (entry_monomial e) (entry_monomial f) (entries_form es) (put (entry_monomial e) (entries_form es))) (order_of_keys e f ke (all_here IsKeyed f es all))

pub puts : (e : Entry) (sum : ℕ) (es now : List Entry) → IsKeyed e → All IsKeyed es → IsStrictlySortedBy key_order (keys_of es) → sum ≡ with_old e.1.0 (lookup (is_at (key_order e.0)) es) → now ≡ insert_entry key_order es e.0 (sum, e.1.1) → entries_form now ≡ put (entry_monomial e) (entries_form es)
puts e sum es now ke all sorted is e_now = ap entries_form e_now ∙ put_entry e sum es ke all sorted is

-- ---- the entries stay keyed
then_equal : (o p : Ordering) → ordering_then o p ≡ Equal → (o ≡ Equal) × (p ≡ Equal)
then_equal Less p h = absurd (cc)
then_equal Equal p h = (refl, h)
then_equal Greater p h = absurd (cc)

numbers_equal : (x y : ℕ) → nat_cmp x y ≡ Equal → x ≡ y
numbers_equal x y h = by_order (nat_cmp x y) h (ranked x y (nat_cmp x y) refl)
  where
    by_order : (o : Ordering) → o ≡ Equal → MatchOrdering o (x < y) (x ≡ y) (y < x) → x ≡ y
    by_order Less e m = absurd (cc)
    by_order Equal e m = m
    by_order Greater e m = absurd (cc)

lists_equal : {X : Type 0} (R : X → X → Ordering) → ((x y : X) → R x y ≡ Equal → x ≡ y) → (xs ys : List X) → slice_cmp R xs ys ≡ Equal → xs ≡ ys
lists_equal R one [] [] h = refl
lists_equal R one [] (y ∷ ys) h = absurd (cc)
lists_equal R one (x ∷ xs) [] h = absurd (cc)
lists_equal R one (x ∷ xs) (y ∷ ys) h =
    let p = then_equal (R x y) (slice_cmp R xs ys) h in
    ap (λ z. z ∷ xs) (one x y p.0) ∙ ap (λ zs. y ∷ zs) (lists_equal R one xs ys p.1)

same_keys : (k l : Key) → key_order k l ≡ Equal → map (λ (x : Vec ℕ). x.items) k.1.items ≡ map (λ (x : Vec ℕ). x.items) l.1.items
same_keys k l h =
    lists_equal (slice_cmp nat_cmp) (lists_equal nat_cmp numbers_equal) (map (λ (x : Vec ℕ). x.items) k.1.items) (map (λ (x : Vec ℕ). x.items) l.1.items)
    (sym (slice_cmp-map (λ (x : Vec ℕ). x.items) (slice_cmp nat_cmp) k.1.items l.1.items) ∙ (then_equal (nat_cmp k.0 l.0) (slice_cmp (λ (x y : Vec ℕ). slice_cmp nat_cmp x.items y.items) k.1.items l.1.items) h).1)

rekeyed : (k l : Key) (v w : Scaled) → IsKeyed (k, v) → IsKeyed (l, w) → key_order k l ≡ Equal → IsKeyed (l, v)
rekeyed k l v w kv lw h = record { count = lw.count; keys = sym (same_keys k l h) ∙ kv.keys; small = kv.small }

keyed_step : (o : Ordering) (k : Key) (v : Scaled) (e : Entry) (es inserted : List Entry) → IsKeyed (k, v) → IsKeyed e → All IsKeyed es → All IsKeyed inserted → (o ≡ Equal → IsKeyed (e.0, v)) → All IsKeyed (match_ordering o ((k, v) ∷ e ∷ es) ((e.0, v) ∷ es) (e ∷ inserted))
keyed_step Less k v e es inserted kv ke all later equal = all_with IsKeyed (k, v) (e ∷ es) kv (all_with IsKeyed e es ke all)
keyed_step Equal k v e es inserted kv ke all later equal = all_with IsKeyed (e.0, v) es (equal refl) all
keyed_step Greater k v e es inserted kv ke all later equal = all_with IsKeyed e inserted ke later

pub keyed_inserted : (k : Key) (v : Scaled) (es : List Entry) → IsKeyed (k, v) → All IsKeyed es → All IsKeyed (insert_entry key_order es k v)
keyed_inserted k v [] kv all = all_with IsKeyed (k, v) [] kv all
keyed_inserted k v (e ∷ es) kv all =
    let ke = all_here IsKeyed e es all in
    let rest = all_behind IsKeyed e es all in
    keyed_step (key_order k e.0) k v e es (insert_entry key_order es k v) kv ke rest (keyed_inserted k v es kv rest) (rekeyed k e.0 v e.1 kv ke)

-- ---- limits
great_step : (o : Ordering) (k : Key) (v : Scaled) (e : Entry) (es inserted : List Entry) → nat_le past_limit v.0 ≡ true → list_any (λ (m : Monomial). nat_le past_limit m.coefficient) (entries_form inserted) ≡ true → list_any (λ (m : Monomial). nat_le past_limit m.coefficient) (entries_form (match_ordering o ((k, v) ∷ e ∷ es) ((e.0, v) ∷ es) (e ∷ inserted))) ≡ true
great_step Less k v e es inserted h later = ap (λ b. b || list_any (λ (m : Monomial). nat_le past_limit m.coefficient) (entries_form (e ∷ es))) h
great_step Equal k v e es inserted h later = ap (λ b. b || list_any (λ (m : Monomial). nat_le past_limit m.coefficient) (entries_form es)) h
great_step Greater k v e es inserted h later = or_true (nat_le past_limit e.1.0) (list_any (λ (m : Monomial). nat_le past_limit m.coefficient) (entries_form inserted)) later
  where
    or_true : (a b : Bool) → b ≡ true → (a || b) ≡ true
    or_true true b h = refl
    or_true false b h = h

great_inserted : (k : Key) (v : Scaled) (es : List Entry) → nat_le past_limit v.0 ≡ true → list_any (λ (m : Monomial). nat_le past_limit m.coefficient) (entries_form (insert_entry key_order es k v)) ≡ true
great_inserted k v [] h = ap (λ b. b || false) h
great_inserted k v (e ∷ es) h = great_step (key_order k e.0) k v e es (insert_entry key_order es k v) h (great_inserted k v es h)

-- a sum that is too great stands in the form
pub too_great : (e : Entry) (es : List Entry) → IsKeyed e → All IsKeyed es → IsStrictlySortedBy key_order (keys_of es) → past_limit ≤ with_old e.1.0 (lookup (is_at (key_order e.0)) es) → list_any (λ (m : Monomial). nat_le past_limit m.coefficient) (put (entry_monomial e) (entries_form es)) ≡ true
too_great e es ke all sorted h =
    let sum = with_old e.1.0 (lookup (is_at (key_order e.0)) es) in
    ap (list_any (λ (m : Monomial). nat_le past_limit m.coefficient)) (sym (put_entry e sum es ke all sorted refl)) ∙ great_inserted e.0 (sum, e.1.1) es (le-leb past_limit sum h)

longer_step : (o : Ordering) (k : Key) (v : Scaled) (f : Entry) (es inserted : List Entry) (found : Option Scaled) → (found ≡ None → length inserted ≡ suc (length es)) → cond (is_eq o) (Some f.1) found ≡ None → length (match_ordering o ((k, v) ∷ f ∷ es) ((f.0, v) ∷ es) (f ∷ inserted)) ≡ suc (suc (length es))
longer_step Less k v f es inserted found later h = refl
longer_step Equal k v f es inserted found later h = absurd (cc)
longer_step Greater k v f es inserted found later h = ap suc (later h)

longer : (k : Key) (v : Scaled) (es : List Entry) → lookup (is_at (key_order k)) es ≡ None → length (insert_entry key_order es k v) ≡ suc (length es)
longer k v [] h = refl
longer k v (f ∷ es) h = longer_step (key_order k f.0) k v f es (insert_entry key_order es k v) (lookup (is_at (key_order k)) es) (longer k v es) h

-- an entry more than there may be
pub too_many : (e : Entry) (es : List Entry) → IsKeyed e → All IsKeyed es → IsStrictlySortedBy key_order (keys_of es) → lookup (is_at (key_order e.0)) es ≡ None → most_monomials ≤ length es → most_monomials < length (put (entry_monomial e) (entries_form es))
too_many e es ke all sorted none h =
    let put_is : entries_form (insert_entry key_order es e.0 (e.1.0, e.1.1)) ≡ put (entry_monomial e) (entries_form es) = put_entry e e.1.0 es ke all sorted (sym (ap (with_old e.1.0) none)) in
    let count : length (entries_form (insert_entry key_order es e.0 (e.1.0, e.1.1))) ≡ length (insert_entry key_order es e.0 (e.1.0, e.1.1)) = length-map (entries_values (insert_entry key_order es e.0 (e.1.0, e.1.1))) coded ∙ length-map (insert_entry key_order es e.0 (e.1.0, e.1.1)) entry_value in
    omega (arith, h, longer e.0 (e.1.0, e.1.1) es none, count, ap length put_is)

-- entries that are keyed make a small form
pub small_entries : (es : List Entry) → All IsKeyed es → length es ≤ most_monomials → IsSmall (entries_form es)
small_entries es all few = record { few = omega (arith, few, length-map (entries_values es) coded, length-map es entry_value); small = each es all }
  where
    each : (fs : List Entry) → All IsKeyed fs → All (λ (m : Monomial). m.coefficient < past_limit) (entries_form fs)
    each [] a = λ k d h. absurd (omega (arith, h))
    each (f ∷ fs) a = all_with (λ (m : Monomial). m.coefficient < past_limit) (entry_monomial f) (entries_form fs) (all_here IsKeyed f fs a).small (each fs (all_behind IsKeyed f fs a))

-- ---- what is answered
pub full : (f : BoundFault) (e : Entry) (es : List Entry) → IsKeyed e → All IsKeyed es → IsStrictlySortedBy key_order (keys_of es) → HasRoom {A = Unit {0}} (Err f) (length es) (lookup (is_at (key_order e.0)) es) → Passes f (put (entry_monomial e) (entries_form es))
full Monomials e es ke all sorted h = too_many e es ke all sorted h.0 h.1
full Coefficient e es ke all sorted h = absurd h
full Memory e es ke all sorted h = absurd h

pub past : (f : BoundFault) (e : Entry) (es : List Entry) → IsKeyed e → All IsKeyed es → IsStrictlySortedBy key_order (keys_of es) → Limited (Err f) (with_old e.1.0 (lookup (is_at (key_order e.0)) es)) → Passes f (put (entry_monomial e) (entries_form es))
past Monomials e es ke all sorted h = absurd h
past Coefficient e es ke all sorted h = too_great e es ke all sorted h
past Memory e es ke all sorted h = absurd h

pub stay_keyed : (e : Entry) (sum n : ℕ) (es now : List Entry) → IsKeyed e → All IsKeyed es → Limited (Ok sum) n → now ≡ insert_entry key_order es e.0 (sum, e.1.1) → All IsKeyed now
stay_keyed e sum n es now ke all h is =
    let kv : IsKeyed (e.0, (sum, e.1.1)) = record { count = ke.count; keys = ke.keys; small = subst (λ k. k < past_limit) (sym h.0) h.1 } in
    subst (All IsKeyed) (sym is) (keyed_inserted e.0 (sum, e.1.1) es kv all)

-- one entry of those that are left
pub entry_goes : (done now : List (ℕ × List Bound)) (es rest : List Entry) (e : Entry) (v : ℕ × List Bound) (whole : List (ℕ × List Bound)) → es ≡ e ∷ rest → v ≡ entry_value e → now ≡ done ++ v ∷ [] → (done ++ entries_values es ≡ whole) × All IsKeyed es → (now ++ entries_values rest ≡ whole) × All IsKeyed rest
entry_goes done now es rest e v whole split is made h = (
  ap (λ xs. xs ++ entries_values rest) made ∙ append_assoc done (v ∷ []) (entries_values rest) ∙ ap (λ u. done ++ u ∷ entries_values rest) is ∙ ap (λ xs. done ++ entries_values xs) (sym split) ∙ h.0,
  all_behind IsKeyed e rest (subst (All IsKeyed) split h.1),
)

pub entries_end : (done : List (ℕ × List Bound)) (es : List Entry) (whole : List (ℕ × List Bound)) → es ≡ [] → done ++ entries_values es ≡ whole → done ≡ whole
entries_end done es whole e h = sym (append-nil done) ∙ ap (λ xs. done ++ entries_values xs) (sym e) ∙ h
