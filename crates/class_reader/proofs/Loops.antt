-- So many steps, taken in a loop.
use Rattle.std.proofs.Common.{◌≡◌, ℕ, suc, ◌+◌, ◌-◌, ◌<◌, ◌≤◌, List, [], ◌∷◌, ◌++◌, Option, Some, None, refl, sym, ◌∙◌, arith}
use Rattle.std.proofs.lemmas.List.{append-nil}
use Rattle.class_reader.specs.declared.fault.ClassFault.{ClassFault}
use Rattle.class_reader.specs.Faults.{first_with}
use Rattle.class_reader.specs.Met.{Met, ◌>>=◌, times, pushed}
use Rattle.class_reader.proofs.Keeping.{first_with_behind}

-- what is left to read, where this fault was kept, tells what was to be read, where that one was
pub record Leads {S : Type 0} (before : Option ClassFault) (all : Met S) (kept : Option ClassFault) (left : Met S) : Type 0 where
  pub value : all.value ≡ left.value
  pub faults : first_with before all.faults ≡ first_with kept left.faults

-- what was to be read is this, and this fault is kept
pub record Ends {S : Type 0} (before : Option ClassFault) (all : Met S) (was : Option S) (kept : Option ClassFault) : Type 0 where
  pub value : all.value ≡ was
  pub faults : kept ≡ first_with before all.faults

bound : {A B : Type 0} (met : Met A) (f : A → Met B) (x : A) (kept now : Option ClassFault) → met.value ≡ Some x → now ≡ first_with kept met.faults → Leads kept (met >>= f) now (f x)
bound {A} {B} met f x kept now h k = record {
  value = rw h refl;
  faults = rw (h, k) (first_with_behind kept met.faults (f x).faults);
}

cut_off : {A B : Type 0} (met : Met A) (f : A → Met B) (kept now : Option ClassFault) → met.value ≡ None → now ≡ first_with kept met.faults → Ends kept (met >>= f) None now
cut_off met f kept now h k = record { value = rw h refl; faults = rw (h, k) refl }

pub goes_on : {S : Type 0} (step : S → Met S) (count i : ℕ) (s t : S) (before kept now : Option ClassFault) (all : Met S) → i < count → (step s).value ≡ Some t → now ≡ first_with kept (step s).faults
    → Leads before all kept (times step (count - i) s) → Leads before all now (times step (count - (i + 1)) t)
unfolding times
goes_on {S} step count i s t before kept now all lt h k so_far =
    let n : count - i ≡ suc (count - (i + 1)) = omega arith in
    let unfolded : Leads before all kept (step s >>= times step (count - (i + 1))) = rw n at so_far in
    let next = bound (step s) (times step (count - (i + 1))) t kept now h k in
    record { value = unfolded.value ∙ next.value; faults = unfolded.faults ∙ next.faults }

pub stops : {S : Type 0} (step : S → Met S) (count i : ℕ) (s : S) (before kept now : Option ClassFault) (all : Met S) → i < count → (step s).value ≡ None → now ≡ first_with kept (step s).faults
    → Leads before all kept (times step (count - i) s) → (all.value ≡ None) × (now ≡ first_with before all.faults)
unfolding times
stops {S} step count i s before kept now all lt h k so_far =
    let n : count - i ≡ suc (count - (i + 1)) = omega arith in
    let unfolded : Leads before all kept (step s >>= times step (count - (i + 1))) = rw n at so_far in
    let next = cut_off (step s) (times step (count - (i + 1))) kept now h k in
    (unfolded.value ∙ next.value, next.faults ∙ sym unfolded.faults)

pub is_done : {S : Type 0} (step : S → Met S) (count i : ℕ) (s : S) (before kept : Option ClassFault) (all : Met S) → count ≤ i
    → Leads before all kept (times step (count - i) s) → (all.value ≡ Some s) × (kept ≡ first_with before all.faults)
unfolding times first_with
is_done {S} step count i s before kept all le so_far =
    let n : count - i ≡ 0 = omega arith in
    let unfolded : Leads before all kept (times step 0 s) = rw n at so_far in
    (unfolded.value, sym unfolded.faults)

-- ---- reading many

-- one more is read, and stands behind the others
pub reads_on : {A S : Type 0} (read : S → Met (A × S)) (count i : ℕ) (front : List A) (s : S) (x : A) (t : S) (before kept now : Option ClassFault) (all : Met (List A × S)) → i < count
    → (read s).value ≡ Some (x, t) → now ≡ first_with kept (read s).faults → Leads before all kept (times (pushed read) (count - i) (front, s)) → Leads before all now (times (pushed read) (count - (i + 1)) (front ++ x ∷ [], t))
unfolding pushed
reads_on {A} {S} read count i front s x t before kept now all lt h k so_far =
    let value : (pushed read (front, s)).value ≡ Some (front ++ x ∷ [], t) = rw h refl in
    let faults : now ≡ first_with kept (pushed read (front, s)).faults = rw h (rw (append-nil (read s).faults) k) in
    goes_on (pushed read) count i (front, s) (front ++ x ∷ [], t) before kept now all lt value faults so_far

pub reads_no_more : {A S : Type 0} (read : S → Met (A × S)) (count i : ℕ) (front : List A) (s : S) (before kept now : Option ClassFault) (all : Met (List A × S)) → i < count
    → (read s).value ≡ None → now ≡ first_with kept (read s).faults → Leads before all kept (times (pushed read) (count - i) (front, s)) → (all.value ≡ None) × (now ≡ first_with before all.faults)
unfolding pushed
reads_no_more {A} {S} read count i front s before kept now all lt h k so_far =
    let value : (pushed read (front, s)).value ≡ None = rw h refl in
    let faults : now ≡ first_with kept (pushed read (front, s)).faults = rw h k in
    stops (pushed read) count i (front, s) before kept now all lt value faults so_far
