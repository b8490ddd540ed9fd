-- What the heap of a case holds.
use Rattle.std.proofs.Common.{◌≡◌, inl, inr, ℕ, true, List, Option, Some, None, refl, subst, All, Contains, Bor}
use Rattle.std.specs.Prelude.{IsSome}
use Rattle.std.specs.Option.{is_some, option_copied}
use Rattle.frames.specs.declared.value.Value.{Value}
use Rattle.frames.specs.declared.value.Value.TheVariants.{Ref}
use Rattle.frames.specs.Heap.{Cells, cell_at}
use Rattle.entries.specs.Entry.{Leads, refers, through}
use Rattle.path_length.specs.Lengths.{HoldsReached}
use Rattle.machine_cases.specs.Closed.{IsClosed, IsHeldValue}

-- a copy is there where what it is of is
pub some_copied : {A : Type 0} (found : Option (Bor A)) (copied : Option A) → option_copied found ≡ copied → true ≡ is_some found → IsSome copied
some_copied None copied e some = absurd cc
some_copied (Some x) copied e some = subst IsSome e refl

held : (heap : Cells) (values : List Value) (b : ℕ) → All (IsHeldValue heap) values → Contains values (Ref b) → IsSome (cell_at heap b)
held heap values b all c = subst (IsHeldValue heap) c.2 (all c.0 (Ref b) c.1)

led : (heap : Cells) → IsClosed heap → (a b : ℕ) → Leads heap a b → IsSome (cell_at heap b)
led heap closed a b (refers c) = held heap _ b (closed a) c
led heap closed a b (through c more) = led heap closed _ b more

pub all_held : (heap : Cells) (r : ℕ) → IsClosed heap → IsSome (cell_at heap r) → HoldsReached heap (Ref r)
all_held heap r closed some b (inl same) = subst (λ n. IsSome (cell_at heap n)) same some
all_held heap r closed some b (inr leads) = led heap closed r b leads
