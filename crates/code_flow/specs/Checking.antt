-- What is checked at each instruction of the methods that are listed.
use Rattle.std.specs.Prelude.{ℕ, suc, ◌==◌, ◌&&◌, nat_lt, Bool, false, List, [], ◌∷◌, length, slice_index_or, Option, Some, None, Result, Ok, Err}
use Rattle.std.specs.Option.{option_or}
use Rattle.std.specs.List.{list_any, position}
use Rattle.op_table.specs.declared.construct.Construct.{Construct}
use Rattle.op_table.specs.declared.construct.Construct.TheVariants.{Later}
use Rattle.world.specs.declared.member.MemberId.{MemberId}
use Rattle.code_flow.specs.declared.checking.Check.{Check}
use Rattle.code_flow.specs.declared.checking.Check.TheVariants.{Over, Back}
use Rattle.code_flow.specs.declared.fault.FlowFault.{FlowFault}
use Rattle.code_flow.specs.declared.fault.FlowFault.TheVariants.{Unsupported, TooManyMethods}
use Rattle.code_flow.specs.declared.scanning.Site.{Site}
use Rattle.code_flow.specs.declared.scanning.Scan.{Scan}
use Rattle.code_flow.specs.Listing.{is_method, is_among}
use Rattle.code_flow.specs.Flow.{fault_if, first_of}
use Rattle.code_flow.specs.Scanned.{unsupported_at, unsupported_opcode}

-- the two nodes have one number
abbrev pub same_number : List ℕ → ℕ → ℕ → Bool
same_number numbers i j = nat_lt i (length numbers) && (nat_lt j (length numbers) && (slice_index_or numbers i 0 == slice_index_or numbers j 0))

abbrev pub same_as : List ℕ → ℕ → Option ℕ → Bool
same_as numbers i None = false
same_as numbers i (Some j) = same_number numbers i j

-- the method has the number of the i-th one
abbrev pub is_back : List MemberId → List ℕ → ℕ → MemberId → Bool
is_back ms numbers i t = same_as numbers i (position (is_method t) ms)

-- what stands against a call of the methods
abbrev pub call_fault : Check → List MemberId → ℕ → MemberId → ℕ → List MemberId → Option FlowFault
call_fault (Over first) ms i m pc ts = fault_if (is_among ts first) TooManyMethods
call_fault (Back numbers) ms i m pc ts = fault_if (list_any (is_back ms numbers i) ts) (Unsupported m pc Later)

abbrev pub verdict_fault : Check → List MemberId → ℕ → MemberId → ℕ → Result (List MemberId) Construct → Option FlowFault
verdict_fault check ms i m pc (Ok ts) = call_fault check ms i m pc ts
verdict_fault check ms i m pc (Err construct) = Some (Unsupported m pc construct)

-- what stands against an instruction of the i-th method
abbrev pub checked_site : Check → List MemberId → ℕ → MemberId → Site → Option FlowFault
checked_site check ms i m site = verdict_fault check ms i m site.pc site.verdict

-- the first fault of the i-th method
abbrev pub checked_scan : Check → List MemberId → ℕ → Scan → Option FlowFault
checked_scan check ms i scan =
    option_or
    (unsupported_at scan.method 0 scan.against)
    (option_or (first_of (checked_site check ms i scan.method) scan.body.sites) (unsupported_opcode scan.method scan.body.broken))

-- the first answer for the things of a list and their places, from k on
unfoldable pub first_from : {A B : Type 0} → (ℕ → A → Option B) → ℕ → List A → Option B
first_from f k [] = None
first_from f k (a ∷ others) = option_or (f k a) (first_from f (suc k) others)
