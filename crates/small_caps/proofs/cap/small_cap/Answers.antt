use Rattle.std.specs.Prelude.{◌≡◌, ℕ, ℤ, true, false, List}
use Rattle.std.proofs.Common.{refl}
use Rattle.lin_rows.specs.Linear.{Linear}
use Rattle.lin_rows.specs.Proving.{Multipliers}
use Rattle.lin_rows.specs.Rows.{lins}
use Rattle.small_cert.specs.Small.{IsSmallBy, AreShared, falsehood}
use Rattle.small_caps.specs.Caps.{IsOver}
use Rattle.small_caps.proofs.Answered.{none_best, not_dead_by, own_answer, dead_answer, taken_answer, found_fits}
use Rattle.small_caps.proofs.cap.small_cap.Goals as goal

pub returns-then-is_over : goal.returns-then-is_over
returns-then-is_over c = own_answer (lins c.args.rows.now) c.args.l.now c.in_ok-cap.cap c.args.entry.now c.new-mults.result (c.if-is_over.ensures.0 refl) c.in_ok-cap.ensures.cases c.new-mults.ensures

not_over : (l : Linear) (entry : List ℕ) → (IsOver entry l → false ≡ true) → IsOver entry l → ⊥
not_over l entry h over = let e = h over in absurd cc

pub returns-in-Some : goal.returns-in-Some
returns-in-Some c =
    dead_answer (lins c.args.rows.now) c.args.l.now c.in_ok-cap-2.cap c.args.entry.now c.in_ok-mults.field-0 c.in-Some.mults (not_over c.args.l.now c.args.entry.now c.if-is_over.ensures.1) c.in-Some.is c.in_ok-mults.ensures c.in_ok-cap-2.ensures

pub taken-requires-clause-front : goal.taken-requires-clause-front
taken-requires-clause-front c = (found_fits c.args.rows.now c.args.l.now c.args.entry.now c.in_ok-found.field-0 c.in-Some-2.found c.in-Some-2.is c.in_ok-found.ensures c.requires).0

pub taken-requires-clause-last : goal.taken-requires-clause-last
taken-requires-clause-last c = (found_fits c.args.rows.now c.args.l.now c.args.entry.now c.in_ok-found.field-0 c.in-Some-2.found c.in-Some-2.is c.in_ok-found.ensures c.requires).1

pub returns-in_ok-taken-in-Some-2 : goal.returns-in_ok-taken-in-Some-2
returns-in_ok-taken-in-Some-2 c =
    let rows = lins c.args.rows.now in
    let taken = c.in_ok-taken-in-Some-2.ensures in
    taken_answer rows c.args.l.now c.in_ok-taken-in-Some-2.field-0.cap c.args.entry.now c.in_ok-found.field-0 c.in-Some-2.found c.in_ok-taken-in-Some-2.field-0.mults c.in-Some-2.is c.in_ok-found.ensures (not_over c.args.l.now c.args.entry.now c.if-is_over.ensures.1)
    (not_dead_by rows c.in_ok-mults.field-0 (λ n. (m : Multipliers) × (k : ℤ) × IsSmallBy rows falsehood m k × AreShared n m k) c.in_default.is c.in_ok-mults.ensures) taken.0 taken.1

pub returns-in-None : goal.returns-in-None
returns-in-None c =
    let rows = lins c.args.rows.now in
    none_best rows c.args.l.now c.args.entry.now c.in_ok-found.field-0 c.in-None.is c.in_ok-found.ensures (not_over c.args.l.now c.args.entry.now c.if-is_over.ensures.1)
    (not_dead_by rows c.in_ok-mults.field-0 (λ n. (m : Multipliers) × (k : ℤ) × IsSmallBy rows falsehood m k × AreShared n m k) c.in_default.is c.in_ok-mults.ensures)
