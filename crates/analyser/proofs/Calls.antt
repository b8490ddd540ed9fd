-- How often the sink was called, and how the shelf was left.
use Rattle.std.proofs.Common.{◌≡◌, ℕ, sym, ◌∙◌, ap, subst, inl, inr}
use Rattle.ports.specs.Shelf.{ShelfState}
use Rattle.ports.specs.Sink.{SinkState, IsCalledOnce, IsCalledAtMostOnce}
use Rattle.analyser.specs.declared.status.LimitKind.TheVariants.{Files}
use Rattle.analyser.specs.declared.status.Status.{Status}
use Rattle.analyser.specs.declared.status.Status.TheVariants as answers
use Rattle.analyser.specs.Causes.{IsLimit, files, bytes, too_many, too_great}
use Rattle.analyser.specs.Answers.{IsAnswer, usage, later, many, fault, overlong, too_big, on_files, WasPut, whole, failed, out_of_memory, Outcome, answered, gave_up, IsNoFetchFault, AsksForNone, refused, crowded, IsOfWords, misused, unbuilt, crowding}
use Rattle.analyser.proofs.Causes.{Asked, Cause, Known, cause_of, has_cause}

-- ---- the sink

put_once : (status result : Status) (old new : SinkState) → WasPut status result old new → (result ≡ answers.Memory → ⊥) → IsCalledOnce old new
put_once status result old new (whole same put called kept) told = called
put_once status result old new (failed same rises taken called) told = called
put_once status result old new (out_of_memory same nothing) told = absurd (told same)

-- where memory didn't run out, the sink was called once
pub once : (asked : Asked) (before after : ShelfState) (result : Status) (old new : SinkState) → Outcome asked before after result old new
    → (result ≡ answers.Memory → ⊥) → IsCalledOnce old new
once asked before after result old new (answered status answer put) told = put_once status result old new put told
once asked before after result old new (gave_up same kept) told = absurd (told same)

put_at_most_once : (status result : Status) (old new : SinkState) → WasPut status result old new → IsCalledAtMostOnce old new
put_at_most_once status result old new (whole same put called kept) = inr called
put_at_most_once status result old new (failed same rises taken called) = inr called
put_at_most_once status result old new (out_of_memory same nothing) = nothing.calls

pub at_most_once : (asked : Asked) (before after : ShelfState) (result : Status) (old new : SinkState) → Outcome asked before after result old new
    → IsCalledAtMostOnce old new
at_most_once asked before after result old new (answered status answer put) = put_at_most_once status result old new put
at_most_once asked before after result old new (gave_up same kept) = inl (ap (λ (s : SinkState). s.calls) kept)

put_without_fault : (status result : Status) (old new : SinkState) → WasPut status result old new → (result ≡ answers.OutFault → ⊥) → new.faults ≡ old.faults
put_without_fault status result old new (whole same put called kept) told = kept
put_without_fault status result old new (failed same rises taken called) told = absurd (told same)
put_without_fault status result old new (out_of_memory same nothing) told = nothing.faults

-- the sink's faults stay where none is told
pub without_fault : (asked : Asked) (before after : ShelfState) (result : Status) (old new : SinkState) → Outcome asked before after result old new
    → (result ≡ answers.OutFault → ⊥) → new.faults ≡ old.faults
without_fault asked before after result old new (answered status answer put) told = put_without_fault status result old new put told
without_fault asked before after result old new (gave_up same kept) told = ap (λ (s : SinkState). s.faults) kept

put_nothing : (asked : Asked) (before after : ShelfState) (status result : Status) (old new : SinkState) → Known → IsAnswer asked before after status
    → WasPut status result old new → result ≡ answers.Memory → new.content ≡ old.content
put_nothing asked before after status result old new known answer (whole same put called kept) is =
    absurd (subst (λ (s : Status). Cause asked before after s) (sym same ∙ is) (cause_of asked before after status known answer))
put_nothing asked before after status result old new known answer (failed same rises taken called) is = absurd cc
put_nothing asked before after status result old new known answer (out_of_memory same nothing) is = nothing.content

-- where memory ran out, nothing was put
pub nothing_put : (asked : Asked) (before after : ShelfState) (result : Status) (old new : SinkState) → Known → Outcome asked before after result old new
    → result ≡ answers.Memory → new.content ≡ old.content
nothing_put asked before after result old new known (answered status answer put) is = put_nothing asked before after status result old new known answer put is
nothing_put asked before after result old new known (gave_up same kept) is = ap (λ (s : SinkState). s.content) kept

-- ---- the shelf

stays : (asked : Asked) (before after : ShelfState) (status : Status) → IsAnswer asked before after status → ((word : ℕ) → status ≡ answers.FetchFault word → ⊥)
    → ((word : ℕ) → status ≡ answers.TooLong word → ⊥) → after ≡ before
stays asked before after status (usage index a is same) fetched short = same
stays asked before after status (later word a is same) fetched short = same
stays asked before after status (many request a more is same) fetched short = same
stays asked before after status (fault request word a within at is) fetched short = absurd (fetched word is)
stays asked before after status (overlong request word a within at is) fetched short = absurd (short word is)
stays asked before after status (too_big request a within big is same) fetched short = same
stays asked before after status (on_files request fs a within held hold fits on same) fetched short = same

put_stays : (asked : Asked) (before after : ShelfState) (status result : Status) (old new : SinkState) → IsAnswer asked before after status
    → WasPut status result old new → IsNoFetchFault result → after ≡ before
put_stays asked before after status result old new answer (whole same put called kept) none =
    stays asked before after status answer (λ word is. none.fetched word (same ∙ is)) (λ word is. none.short word (same ∙ is))
put_stays asked before after status result old new answer (failed same rises taken called) none = absurd (none.reported.put same)
put_stays asked before after status result old new answer (out_of_memory same nothing) none = absurd (none.reported.held same)

-- the shelf's counts stay where no fault of it is told
pub shelf_stays : (asked : Asked) (before after : ShelfState) (result : Status) (old new : SinkState) → Outcome asked before after result old new
    → IsNoFetchFault result → after ≡ before
shelf_stays asked before after result old new (answered status answer put) none = put_stays asked before after status result old new answer put none
shelf_stays asked before after result old new (gave_up same kept) none = absurd (none.reported.held same)

names_too_many : (asked : Asked) (before : ShelfState) (number : ℕ) → IsLimit asked before Files number → AsksForNone asked
names_too_many asked before number (files request a more kind is) = crowded request a more
names_too_many asked before number (bytes request a big kind is) = absurd cc
names_too_many asked before number (too_many target w reads flows kind is) = absurd cc
names_too_many asked before number (too_great target w program reads flows great kind is) = absurd cc

-- what is answered to the words alone is answered where they ask for no file
pub asks_for_none : (asked : Asked) (before after : ShelfState) (result : Status) (old new : SinkState) → Known → Outcome asked before after result old new
    → IsOfWords result → AsksForNone asked
asks_for_none asked before after result old new known outcome (misused index is) =
    refused (answers.Usage index) (has_cause asked before after result (answers.Usage index) old new known outcome is (record { put = λ e. cc; held = λ e. cc }))
asks_for_none asked before after result old new known outcome (unbuilt word is) =
    refused (answers.NotYet word) (has_cause asked before after result (answers.NotYet word) old new known outcome is (record { put = λ e. cc; held = λ e. cc }))
asks_for_none asked before after result old new known outcome (crowding number is) =
    names_too_many asked before number
    (has_cause asked before after result (answers.Limit Files number) old new known outcome is (record { put = λ e. cc; held = λ e. cc }))
