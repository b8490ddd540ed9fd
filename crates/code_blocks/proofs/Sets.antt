-- The successors of an instruction as a set, and the instructions of code with theirs.
use Rattle.std.proofs.Common.{◌≡◌, ◌⊎◌, ◌↔◌, inl, inr, ℕ, suc, ◌+◌, ◌<◌, ◌≤◌, Bool, true, false, List, [], ◌∷◌, ◌++◌, length, map, Option, Some, None, arith, refl, sym, ap, subst, ◌∙◌, ℤ, take, get_or}
use Rattle.std.specs.Prelude.{slice_get, Contains, Ok, pos, negsuc, ◌+ℤ◌, ◌==◌, not, option_map, if◌then◌else◌}
use Rattle.std.specs.List.{list_any}
use Rattle.std.proofs.Common.{eqb-true}
use Rattle.std.proofs.lemmas.Bool.{cases_lt, le-ltb}
use Rattle.std.proofs.lemmas.List.{map-append, take_all}
use Rattle.common_laws.proofs.Parts.{take_next}
use Rattle.std.proofs.lemmas.Option.{slice_get-map, slice_get_cases}
use Rattle.std.proofs.lemmas.List.Elements.{Contains-append_left, Contains-append_right, Contains-append_cases}
use Rattle.common_laws.proofs.Members.{contains_cases, contains_none, in_map, from_map, from_flat}
use Rattle.common_laws.proofs.Tests.{any_in, any_has, any_each}
use Rattle.op_table.specs.Actions.{action_of}
use Rattle.op_table.specs.declared.acts.Action.{Action}
use Rattle.op_table.specs.declared.acts.Action.TheVariants as acts
use Rattle.op_table.specs.Laws.{InstrsFit}
use Rattle.op_table.specs.Grammar.{instr_at}
use Rattle.op_table.specs.Cases.{case_count}
use Rattle.graph_core.specs.Graphs.{IsRising}
use Rattle.code_blocks.specs.declared.instruction.Placed.{Placed}
use Rattle.code_blocks.specs.declared.instruction.Instruction.{Instruction}
use Rattle.code_blocks.specs.declared.instruction.Placement.{Placement}
use Rattle.code_blocks.specs.Placing.{placed, placement_of, is_last, is_place, is_place_at, ArePlaces, is_marked_at}
use Rattle.code_blocks.specs.Successors.{goes_behind, distances_by, distances, places_of, place_so_far, behind, targets, rising, successors_of, instruction_of, instructions_of, has_bad_target}
use Rattle.code_blocks.specs.Blocks.{ends_block, is_end, next_pc}
use Rattle.code_blocks.specs.Laws.{IsLaidOut, IsSound}
use Rattle.code_blocks.proofs.Risings.{rising_has, rising_from, rising_order}
use Rattle.code_blocks.proofs.Chains.{chained, chain_first, chain_follows, chain_stands, chain_next}

-- ---- the set

pub successors_are_a_set : (code : List ℕ) (p : Placed) → IsRising (successors_of code p) × ((x : ℕ) → Contains (successors_of code p) x ↔ (Contains (behind p) x ⊎ Contains (targets code p) x))
unfolding successors_of
successors_are_a_set code p = (
  rising_order (behind p ++ targets code p),
  λ x. (
    λ h. Contains-append_cases (behind p) (targets code p) x (rising_from (behind p ++ targets code p) x h),
    λ h. rising_has (behind p ++ targets code p) x
        (elim h [ inl a ↦ Contains-append_left (behind p) (targets code p) x a | inr b ↦ Contains-append_right (behind p) (targets code p) x b ]),
  ),
)

-- ---- what ends no block leads behind itself alone

-- it goes on behind, and doesn't jump
abbrev Passes : List ℕ → ℕ → ℕ → Action → Type 0
Passes code pc cases action = (goes_behind action ≡ true) × (distances_by code pc cases action ≡ [])

passes : (code : List ℕ) (pc cases : ℕ) (action : Action) → ends_block action ≡ false → Passes code pc cases action
passes code pc cases (acts.IfZero test d) e = let f : true ≡ false = e in absurd cc
passes code pc cases (acts.IfInts test d) e = let f : true ≡ false = e in absurd cc
passes code pc cases (acts.IfSame same d) e = let f : true ≡ false = e in absurd cc
passes code pc cases (acts.IfNull null d) e = let f : true ≡ false = e in absurd cc
passes code pc cases (acts.Goto d) e = let f : true ≡ false = e in absurd cc
passes code pc cases (acts.Switch default low count pairs) e = let f : true ≡ false = e in absurd cc
passes code pc cases (acts.Return kind) e = let f : true ≡ false = e in absurd cc
passes code pc cases acts.ReturnNothing e = let f : true ≡ false = e in absurd cc
passes code pc cases acts.Throw e = let f : true ≡ false = e in absurd cc
passes code pc cases action e = (refl, refl)

pub behind_alone : (code : List ℕ) (p : Placed) → ends_block (action_of p.instr) ≡ false → successors_of code p ≡ (p.pc + p.instr.len) ∷ []
unfolding successors_of rising
behind_alone code p e =
    let h = passes code p.pc (case_count p.instr.args) (action_of p.instr) e in
    let first : behind p ≡ (p.pc + p.instr.len) ∷ [] = rw h.0 refl in
    let none : targets code p ≡ [] = rw h.1 refl in
    rw (first, none) refl

-- ---- the instructions of code

stands : (code : List ℕ) (p : Placed) → Contains (placed code) p → instr_at code p.pc ≡ Ok p.instr
stands code p there = chain_stands code 0 (placed code) p (chained (length code) code 0) there

pub placed_stand : InstrsFit → (code : List ℕ) (p : Placed) → Contains (placed code) p → (instr_at code p.pc ≡ Ok p.instr) × (1 ≤ p.instr.len) × (p.pc + p.instr.len ≤ length code)
placed_stand fit code p there =
    let at = stands code p there in
    let fits = fit code p.pc p.instr at in
    (at, fits.0, fits.1)

-- the instruction at a place of the list, and where it stands in code
from_at : (code : List ℕ) (k : ℕ) (ps : List Placed) (i : Instruction) → slice_get (map (instruction_of code) ps) k ≡ Some i → (p : Placed) × (slice_get ps k ≡ Some p) × (instruction_of code p ≡ i)
from_at code k ps i at =
    let mapped : slice_get (map (instruction_of code) ps) k ≡ option_map (instruction_of code) (slice_get ps k) = slice_get-map (instruction_of code) ps k in
    elim (slice_get_cases ps k).1 [
      | inl h ↦ let e : Some (instruction_of code h.0) ≡ Some i = sym (ap (λ (o : Option Placed). option_map (instruction_of code) o) h.2) ∙ sym mapped ∙ at in (h.0, h.2, cc)
      | inr h ↦ let e : None ≡ Some i = sym (ap (λ (o : Option Placed). option_map (instruction_of code) o) h.1) ∙ sym mapped ∙ at in absurd cc
    ]

-- ---- where its successors are

cases_of : (b : Bool) → (b ≡ true) ⊎ (b ≡ false)
cases_of true = inl refl
cases_of false = inr refl

-- by the marks of all places
marked_is : (ps : List Placed) (marks : List Bool) (z : ℤ) → ArePlaces ps marks → is_marked_at marks z ≡ is_place_at ps z
marked_is ps marks (pos x) are = are x
marked_is ps marks (negsuc x) are = refl

pub bad_marked : (code : List ℕ) (p : Placed) (marks : List Bool) → ArePlaces (placed code) marks → list_any (λ d. not (is_marked_at marks (pos p.pc +ℤ d))) (distances code p) ≡ has_bad_target code p
unfolding has_bad_target
bad_marked code p marks are =
    any_each (λ d. not (is_marked_at marks (pos p.pc +ℤ d))) (λ d. not (is_place_at (placed code) (pos p.pc +ℤ d)))
    (λ d. ap (λ (b : Bool). not b) (marked_is (placed code) marks (pos p.pc +ℤ d) are)) (distances code p)

not_last : (code : List ℕ) (p : Placed) → (is_last code p ≡ true → goes_behind (action_of p.instr) ≡ false) → goes_behind (action_of p.instr) ≡ true → p.pc + p.instr.len < length code
not_last code p stays goes =
    elim (cases_lt (p.pc + p.instr.len) (length code)) [
      | inl lt ↦ lt
      | inr le ↦
          let last : is_last code p ≡ true = rw (le-ltb (p.pc + p.instr.len) (length code) le) refl in
          let e : true ≡ false = sym goes ∙ stays last in
          absurd cc
    ]

of_place : (ps : List Placed) (x : ℕ) → is_place ps x ≡ true → (q : Placed) × Contains ps q × (q.pc ≡ x)
of_place ps x e =
    let found = any_has (λ (p : Placed). x == p.pc) ps e in
    (found.0, found.1, sym (eqb-true x found.0.pc found.2))

places_good : (ps : List Placed) (z : ℤ) (x : ℕ) → is_place_at ps z ≡ true → Contains (places_of z) x → (q : Placed) × Contains ps q × (q.pc ≡ x)
places_good ps (pos n) x e h = elim (contains_cases n [] x h) [ inl same ↦ of_place ps x (subst (λ (m : ℕ). is_place ps m ≡ true) same e) | inr none ↦ absurd (contains_none x none) ]
places_good ps (negsuc n) x e h = absurd (contains_none x h)

not_any : {A : Type 0} (f : A → Bool) (xs : List A) → list_any f xs ≡ false → (a : A) → Contains xs a → f a ≡ false
not_any f xs none a there = elim (cases_of (f a)) [
  | inl passes_it ↦ let e : true ≡ false = sym (any_in f xs a there passes_it) ∙ none in absurd cc
  | inr fails_it ↦ fails_it
]

good : (b : Bool) → not b ≡ false → b ≡ true
good true e = refl
good false e = let f : true ≡ false = e in absurd cc

none_bad : (ps : List Placed) (pc : ℕ) (ds : List ℤ) (d : ℤ) → list_any (λ d. not (is_place_at ps (pos pc +ℤ d))) ds ≡ false → Contains ds d → is_place_at ps (pos pc +ℤ d) ≡ true
none_bad ps pc ds d none there = good (is_place_at ps (pos pc +ℤ d)) (not_any (λ d. not (is_place_at ps (pos pc +ℤ d))) ds none d there)

targets_good : (code : List ℕ) (p : Placed) (x : ℕ) → has_bad_target code p ≡ false → Contains (targets code p) x → (q : Placed) × Contains (placed code) q × (q.pc ≡ x)
unfolding has_bad_target
targets_good code p x none h =
    let from = from_flat (place_so_far p.pc) (distances code p) x h in
    places_good (placed code) (pos p.pc +ℤ from.0) x (none_bad (placed code) p.pc (distances code p) from.0 none from.1) from.2

behind_by : InstrsFit → (code : List ℕ) (p : Placed) (x : ℕ) (b : Bool) → IsSound code → Contains (placed code) p → goes_behind (action_of p.instr) ≡ b
    → Contains (if b then (p.pc + p.instr.len) ∷ [] else []) x → (q : Placed) × Contains (placed code) q × (q.pc ≡ x)
behind_by fit code p x true sound there goes h =
    elim (contains_cases (p.pc + p.instr.len) [] x h) [
      | inl same ↦
          let q = chain_next (length code) code 0 p fit (omega arith) sound.whole there (not_last code p (sound.stays p there) goes) in
          (q.0, q.1, q.2 ∙ same)
      | inr none ↦ absurd (contains_none x none)
    ]
behind_by fit code p x false sound there goes h = absurd (contains_none x h)

behind_good : InstrsFit → (code : List ℕ) (p : Placed) (x : ℕ) → IsSound code → Contains (placed code) p → Contains (behind p) x → (q : Placed) × Contains (placed code) q × (q.pc ≡ x)
behind_good fit code p x sound there h = behind_by fit code p x (goes_behind (action_of p.instr)) sound there refl h

pub closed : InstrsFit → (code : List ℕ) (p : Placed) (x : ℕ) → IsSound code → Contains (placed code) p → Contains (successors_of code p) x → (q : Placed) × Contains (placed code) q × (q.pc ≡ x)
closed fit code p x sound there h =
    elim (((successors_are_a_set code p).1 x).0 h) [
      | inl a ↦ behind_good fit code p x sound there a
      | inr b ↦ targets_good code p x (sound.jumps p there) b
    ]

-- the instructions of sound code stand one behind another
pub laid_out : InstrsFit → (code : List ℕ) → IsSound code → IsLaidOut (instructions_of code)
laid_out fit code sound = record {
  start = λ i at. let p = from_at code 0 (placed code) i at in ap (λ (j : Instruction). j.pc) (sym p.2) ∙ chain_first code 0 (placed code) p.0 (chained (length code) code 0) p.1;
  follows = λ k i j at more.
      let p = from_at code k (placed code) i at in
      let q = from_at code (suc k) (placed code) j (subst (λ (n : ℕ). slice_get (instructions_of code) n ≡ Some j) (let e : k + 1 ≡ suc k = omega arith in e) more) in
      ap (λ (j : Instruction). j.pc) (sym q.2) ∙ chain_follows code 0 k (placed code) p.0 q.0 (chained (length code) code 0) p.1 q.1 ∙ ap next_pc p.2;
  long = λ i there. let p = from_map (instruction_of code) (placed code) i there in subst (λ (j : Instruction). 1 ≤ j.instr.len) p.2 (placed_stand fit code p.0 p.1).1;
  behind = λ i there goes.
      let p = from_map (instruction_of code) (placed code) i there in
      let none : ends_block (action_of p.0.instr) ≡ false = ap is_end p.2 ∙ goes in
      ap (λ (j : Instruction). j.successors) (sym p.2) ∙ behind_alone code p.0 none ∙ ap (λ (j : Instruction). next_pc j ∷ []) p.2;
  closed = λ i x there leads.
      let p = from_map (instruction_of code) (placed code) i there in
      let q = closed fit code p.0 x sound p.1 (subst (λ (j : Instruction). Contains j.successors x) (sym p.2) leads) in
      (instruction_of code q.0, in_map (instruction_of code) (placed code) q.0 q.1, q.2);
}

-- ---- instruction by instruction

pub among_placed : (code : List ℕ) (placement : Placement) (ps : List Placed) (k : ℕ) (p : Placed) → placement ≡ placement_of code → ps ≡ placement.instructions → k < length ps
    → p ≡ get_or ps k p → Contains (placed code) p
among_placed code placement ps k p is same lt e =
    subst (λ (l : List Placed). Contains l p) (same ∙ ap (λ (q : Placement). q.instructions) is) (k, lt, sym e)

pub instructions_next : (code : List ℕ) (ps : List Placed) (k : ℕ) (p : Placed) (found more : List Instruction) (i : Instruction) → k < length ps → p ≡ get_or ps k p
    → found ≡ map (instruction_of code) (take k ps) → i ≡ instruction_of code p → more ≡ found ++ i ∷ [] → more ≡ map (instruction_of code) (take (k + 1) ps)
instructions_next code ps k p found more i lt e h is push =
    push
    ∙ ap (λ (l : List Instruction). l ++ i ∷ []) h
    ∙ ap (λ (x : Instruction). map (instruction_of code) (take k ps) ++ x ∷ []) is
    ∙ sym (map-append (instruction_of code) (take k ps) (p ∷ []))
    ∙ ap (λ (l : List Placed). map (instruction_of code) l) (sym (take_next ps k p p lt e))

pub instructions_all : (code : List ℕ) (ps : List Placed) (k : ℕ) (found : List Instruction) → ps ≡ placed code → length ps ≤ k → found ≡ map (instruction_of code) (take k ps)
    → found ≡ instructions_of code
instructions_all code ps k found same le h = h ∙ ap (λ (l : List Placed). map (instruction_of code) l) (take_all k ps le ∙ same)
