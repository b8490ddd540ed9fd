-- Blocks of instructions that stand one behind another.
use Rattle.std.proofs.Common.{◌≡◌, ◌⊎◌, ◌↔◌, inl, inr, ℕ, zero, suc, ◌+◌, ◌-◌, ◌<◌, ◌≤◌, Bool, true, false, List, [], ◌∷◌, length, Option, Some, arith, refl, sym, ap, subst, ◌∙◌}
use Rattle.std.specs.Prelude.{slice_get, Contains, ◌==◌, ◌||◌, nat_eq}
use Rattle.std.specs.List.{list_any}
use Rattle.std.proofs.Common.{eq-eqb}
use Rattle.std.proofs.lemmas.Bool.{cases_lt}
use Rattle.std.proofs.lemmas.Option.{slice_get_within, slice_get_cases}
use Rattle.common_laws.proofs.Members.{contains_at, place_of, contains_head, contains_cases, contains_none}
use Rattle.common_laws.proofs.Numbers.{contains_listed}
use Rattle.common_laws.proofs.Tests.{any_in}
use Rattle.code_blocks.specs.declared.instruction.Instruction.{Instruction}
use Rattle.code_blocks.specs.declared.instruction.Block.{Block}
use Rattle.code_blocks.specs.Blocks.{is_end, next_pc, starts, begins, IsReached, IsBlock, AreBlocks}
use Rattle.code_blocks.specs.Blocks.IsReached.{at_start, onward}
use Rattle.code_blocks.specs.Laws.{IsLaidOut, IsInside}
use Rattle.code_blocks.specs.inside.Cutting.{cut_before, is_cut, IsBlockOf, IsRun}
use Rattle.code_blocks.proofs.Cuts.{there, same_at, run_one, run_more, run_block, run_is}

not_both : (b : Bool) → b ≡ true → b ≡ false → ⊥
not_both b e f = let g : true ≡ false = sym e ∙ f in absurd cc

cases_of : (b : Bool) → (b ≡ true) ⊎ (b ≡ false)
cases_of true = inl refl
cases_of false = inr refl

-- ---- where blocks begin

equal_first : (x : ℕ) (b : Bool) → ((x == x) || b) ≡ true
equal_first x b = rw (eq-eqb x x refl) refl

or_second : (a b : Bool) → b ≡ true → (a || b) ≡ true
or_second true b e = refl
or_second false b e = e

starts_behind : (i : Instruction) → is_end i ≡ true → starts (next_pc i) i ≡ true
starts_behind i ends = rw ends (equal_first (next_pc i) (list_any (nat_eq (next_pc i)) i.successors))

starts_at : (i : Instruction) (x : ℕ) → is_end i ≡ true → Contains i.successors x → starts x i ≡ true
starts_at i x ends leads = rw ends (or_second (x == next_pc i) (list_any (nat_eq x) i.successors) (contains_listed x i.successors leads))

begins_by : (is : List Instruction) (i : Instruction) (x : ℕ) → Contains is i → starts x i ≡ true → begins is x ≡ true
unfolding begins
begins_by is i x inside h = or_second (x == 0) (list_any (starts x) is) (any_in (starts x) is i inside h)

pub begins_zero : (is : List Instruction) → begins is 0 ≡ true
unfolding begins
begins_zero is = refl

-- behind an instruction that ends a block one begins, and where it leads to
pub begins_behind : (is : List Instruction) (i : Instruction) → Contains is i → is_end i ≡ true → begins is (next_pc i) ≡ true
begins_behind is i inside ends = begins_by is i (next_pc i) inside (starts_behind i ends)

pub begins_at : (is : List Instruction) (i : Instruction) (x : ℕ) → Contains is i → is_end i ≡ true → Contains i.successors x → begins is x ≡ true
begins_at is i x inside ends leads = begins_by is i x inside (starts_at i x ends leads)

-- ---- instructions in order

-- those that stand later have greater places
pub later : (is : List Instruction) (n k l : ℕ) (i j : Instruction) → IsLaidOut is → l ≡ k + suc n → slice_get is k ≡ Some i → slice_get is l ≡ Some j → i.pc < j.pc
later is zero k l i j laid e at more =
    let l_is : l ≡ k + 1 = omega arith in
    let next : j.pc ≡ next_pc i = laid.follows k i j at (subst (λ (m : ℕ). slice_get is m ≡ Some j) l_is more) in
    let long : 1 ≤ i.instr.len = laid.long i (contains_at is k i at) in
    omega arith
later is (suc n) k l i j laid e at more =
    let m = there is (k + 1) (let within : l < length is = slice_get_within is l j more in omega arith) in
    let next : m.0.pc ≡ next_pc i = laid.follows k i m.0 at m.1 in
    let long : 1 ≤ i.instr.len = laid.long i (contains_at is k i at) in
    let rest : m.0.pc < j.pc = later is n (k + 1) l m.0 j laid (omega arith) m.1 more in
    omega arith

pub later_at : (is : List Instruction) (k l : ℕ) (i j : Instruction) → IsLaidOut is → k < l → slice_get is k ≡ Some i → slice_get is l ≡ Some j → i.pc < j.pc
later_at is k l i j laid lt at more = later is (l - (k + 1)) k l i j laid (omega arith) at more

-- an instruction at the place behind another is the next one
pub next_is : (is : List Instruction) (k l : ℕ) (i j : Instruction) → IsLaidOut is → slice_get is k ≡ Some i → slice_get is l ≡ Some j → j.pc ≡ next_pc i → l ≡ k + 1
next_is is k l i j laid at more e =
    let long : 1 ≤ i.instr.len = laid.long i (contains_at is k i at) in
    elim (cases_lt k l) [
      | inl lt ↦ elim (cases_lt (k + 1) l) [
        | inl far ↦
            let m = there is (k + 1) (let within : l < length is = slice_get_within is l j more in omega arith) in
            let next : m.0.pc ≡ next_pc i = laid.follows k i m.0 at m.1 in
            let apart : m.0.pc < j.pc = later_at is (k + 1) l m.0 j laid far m.1 more in
            absurd (omega arith)
        | inr near ↦ omega arith
      ]
      | inr le ↦ elim (cases_lt l k) [
        | inl lt ↦ let apart : j.pc < i.pc = later_at is l k j i laid lt more at in absurd (omega arith)
        | inr ge ↦
            let same : j ≡ i = same_at is k j i (subst (λ (m : ℕ). slice_get is m ≡ Some j) (let e : l ≡ k = omega arith in e) more) at in
            let pcs : j.pc ≡ i.pc = ap (λ (x : Instruction). x.pc) same in
            absurd (omega arith)
      ]
    ]

-- ---- inside a block

-- an instruction behind which none begins leads to the next one alone
inner : (is : List Instruction) (b : Block) (k : ℕ) (i j : Instruction) → IsLaidOut is → IsBlock is b → b.first ≤ k → k < b.last → slice_get is k ≡ Some i → slice_get is (k + 1) ≡ Some j
    → i.successors ≡ j.pc ∷ []
inner is b k i j laid h low high at more =
    let next : j.pc ≡ next_pc i = laid.follows k i j at more in
    let none : begins is j.pc ≡ false = h.inside (k + 1) j (omega arith) (omega arith) more in
    elim (cases_of (is_end i)) [
      | inl ends ↦ absurd (not_both (begins is j.pc) (ap (λ (x : ℕ). begins is x) next ∙ begins_behind is i (contains_at is k i at) ends) none)
      | inr goes ↦ laid.behind i (contains_at is k i at) goes ∙ ap (λ (x : ℕ). x ∷ []) (sym next)
    ]

one : (x : ℕ) → Contains (x ∷ []) x
one x = contains_head x []

reach_on : (is : List Instruction) (b : Block) (n k : ℕ) (i : Instruction) → IsLaidOut is → IsBlock is b → k ≡ b.first + n → k ≤ b.last → slice_get is k ≡ Some i → IsReached is b.pc → IsReached is i.pc
reach_on is b zero k i laid h e high at reached =
    let same : h.first ≡ i = same_at is k h.first i (subst (λ (m : ℕ). slice_get is m ≡ Some h.first) (let f : b.first ≡ k = omega arith in f) h.at_first) at in
    subst (λ (x : ℕ). IsReached is x) (sym h.place ∙ ap (λ (x : Instruction). x.pc) same) reached
reach_on is b (suc n) k i laid h e high at reached =
    let p = there is (b.first + n) (let within : k < length is = slice_get_within is k i at in omega arith) in
    let before : IsReached is p.0.pc = reach_on is b n (b.first + n) p.0 laid h refl (omega arith) p.1 reached in
    let more : slice_get is (b.first + n + 1) ≡ Some i = subst (λ (m : ℕ). slice_get is m ≡ Some i) (let f : k ≡ b.first + n + 1 = omega arith in f) at in
    let leads : p.0.successors ≡ i.pc ∷ [] = inner is b (b.first + n) p.0 i laid h (omega arith) (omega arith) p.1 more in
    onward p.0 (contains_at is (b.first + n) p.0 p.1) before (subst (λ (l : List ℕ). Contains l i.pc) (sym leads) (one i.pc))

-- successors lead to each of its instructions where they lead to the first
pub reached_inside : (is : List Instruction) (b : Block) (k : ℕ) (i : Instruction) → IsLaidOut is → IsBlock is b → b.first ≤ k → k ≤ b.last → slice_get is k ≡ Some i → IsReached is b.pc → IsReached is i.pc
reached_inside is b k i laid h low high at reached = reach_on is b (k - b.first) k i laid h (omega arith) high at reached

-- where no block begins the code came from the instruction before
record Came (is : List Instruction) (x : ℕ) : Type 0 where
  from : Instruction
  inside : Contains is from
  reached : IsReached is from.pc
  behind : x ≡ next_pc from

came : (is : List Instruction) (x : ℕ) → IsLaidOut is → IsReached is x → begins is x ≡ false → Came is x
came is x laid at_start none = absurd (not_both (begins is 0) (begins_zero is) none)
came is x laid (onward p inside before leads) none =
    elim (cases_of (is_end p)) [
      | inl ends ↦ absurd (not_both (begins is x) (begins_at is p x inside ends leads) none)
      | inr goes ↦ record {
        from = p;
        inside = inside;
        reached = before;
        behind = elim (contains_cases (next_pc p) [] x (subst (λ (l : List ℕ). Contains l x) (laid.behind p inside goes) leads)) [ inl e ↦ sym e | inr none ↦ absurd (contains_none x none) ];
      }
    ]

reach_back : (is : List Instruction) (b : Block) (n k : ℕ) (i : Instruction) → IsLaidOut is → IsBlock is b → k ≡ b.first + n → k ≤ b.last → slice_get is k ≡ Some i → IsReached is i.pc → IsReached is b.pc
reach_back is b zero k i laid h e high at reached =
    let same : i ≡ h.first = same_at is k i h.first at (subst (λ (m : ℕ). slice_get is m ≡ Some h.first) (let f : b.first ≡ k = omega arith in f) h.at_first) in
    subst (λ (x : ℕ). IsReached is x) (ap (λ (x : Instruction). x.pc) same ∙ h.place) reached
reach_back is b (suc n) k i laid h e high at reached =
    let from = came is i.pc laid reached (h.inside k i (omega arith) high at) in
    let place : slice_get is from.inside.0 ≡ Some from.from = place_of is from.from from.inside in
    let next : k ≡ from.inside.0 + 1 = next_is is from.inside.0 k from.from i laid place at from.behind in
    reach_back is b n from.inside.0 from.from laid h (omega arith) (omega arith) place from.reached

pub reached_first : (is : List Instruction) (b : Block) (k : ℕ) (i : Instruction) → IsLaidOut is → IsBlock is b → b.first ≤ k → k ≤ b.last → slice_get is k ≡ Some i → IsReached is i.pc → IsReached is b.pc
reached_first is b k i laid h low high at reached = reach_back is b (k - b.first) k i laid h (omega arith) high at reached

-- ---- the block of an instruction

abbrev RunTo : List Instruction → ℕ → Type 0
RunTo is k = (f : ℕ) × IsRun is f k

run_up : (is : List Instruction) (k : ℕ) (i : Instruction) → IsLaidOut is → slice_get is k ≡ Some i → RunTo is k
run_up is zero i laid at = (0, run_one is 0 (λ j there. ap (λ (x : ℕ). begins is x) (laid.start j there) ∙ begins_zero is))
run_up is (suc k) i laid at =
    let k_is : k + 1 ≡ suc k = omega arith in
    let p = there is k (let within : suc k < length is = slice_get_within is (suc k) i at in omega arith) in
    let before = run_up is k p.0 laid p.1 in
    elim (cases_of (begins is i.pc)) [
      | inl starts ↦ (suc k, run_one is (suc k) (λ j more. ap (λ (x : Instruction). begins is x.pc) (same_at is (suc k) j i more at) ∙ starts))
      | inr none ↦
          let uncut : is_cut is k ≡ false = ap (λ (m : ℕ). cut_before is (slice_get is m)) k_is ∙ ap (λ (o : Option Instruction). cut_before is o) at ∙ none in
          (before.0, subst (λ (m : ℕ). IsRun is before.0 m) k_is (run_more is before.0 k before.1 uncut))
    ]

record RunOn (is : List Instruction) (f k : ℕ) : Type 0 where
  end : ℕ
  on : k ≤ end
  inside : end < length is
  run : IsRun is f end
  cut : is_cut is end ≡ true

run_down : (is : List Instruction) (n k f : ℕ) → length is ≡ k + suc n → IsRun is f k → RunOn is f k
run_down is zero k f e run = record {
  end = k;
  on = omega arith;
  inside = omega arith;
  run = run;
  cut = elim (slice_get_cases is (k + 1)).1 [
    | inl h ↦ let within = h.1 in absurd (omega arith)
    | inr h ↦ ap (λ (o : Option Instruction). cut_before is o) h.1
  ];
}
run_down is (suc n) k f e run =
    elim (cases_of (is_cut is k)) [
      | inl cut ↦ record { end = k; on = omega arith; inside = omega arith; run = run; cut = cut }
      | inr uncut ↦
          let rest = run_down is n (k + 1) f (omega arith) (run_more is f k run uncut) in
          let on : k + 1 ≤ rest.end = rest.on in
          record { end = rest.end; on = omega arith; inside = rest.inside; run = rest.run; cut = rest.cut }
    ]

record InBlock (is : List Instruction) (f k : ℕ) : Type 0 where
  block : Block
  is_block : IsBlock is block
  begins_with : block.first ≡ f
  low : block.first ≤ k
  high : k ≤ block.last

run_in : (is : List Instruction) (f k : ℕ) → k < length is → IsRun is f k → InBlock is f k
run_in is f k within run =
    let rest = run_down is (length is - (k + 1)) k f (omega arith) run in
    let low : f ≤ k = run.ordered in
    let first = there is f (omega arith) in
    let last = there is rest.end rest.inside in
    let block : Block = record { pc = first.0.pc; first = f; last = rest.end; successors = last.0.successors } in
    let of : IsBlockOf is f rest.end block = record { first = first.0; last = last.0; at_first = first.1; at_last = last.1; is_block = refl } in
    record { block = block; is_block = run_block is f rest.end block rest.run rest.cut of; begins_with = refl; low = low; high = rest.on }

-- ---- the laws

pub blocks_have_reached : (is : List Instruction) (blocks : List Block) (k : ℕ) (i : Instruction) → IsLaidOut is → AreBlocks is blocks → slice_get is k ≡ Some i
    → IsReached is i.pc ↔ ((b : Block) × Contains blocks b × IsInside b k)
blocks_have_reached is blocks k i laid are at = (
  λ reached.
      let run = run_up is k i laid at in
      let c = run_in is run.0 k (slice_get_within is k i at) run.1 in
      (c.block, (are.all c.block).1 (c.is_block, reached_first is c.block k i laid c.is_block c.low c.high at reached), (c.low, c.high)),
  λ h.
      let known = (are.all h.0).0 h.1 in
      reached_inside is h.0 k i laid known.0 h.2.0 h.2.1 at known.1,
)

begins_next : (is : List Instruction) (b : Block) (j : Instruction) (l : ℕ) → IsLaidOut is → (h : IsBlock is b) → Contains h.last.successors j.pc → slice_get is l ≡ Some j → begins is j.pc ≡ true
begins_next is b j l laid h leads at =
    let inside : Contains is h.last = contains_at is b.last h.last h.at_last in
    elim (cases_of (is_end h.last)) [
      | inl ends ↦ begins_at is h.last j.pc inside ends leads
      | inr goes ↦
          let behind : j.pc ≡ next_pc h.last =
          elim (contains_cases (next_pc h.last) [] j.pc (subst (λ (l : List ℕ). Contains l j.pc) (laid.behind h.last inside goes) leads)) [ inl e ↦ sym e | inr none ↦ absurd (contains_none j.pc none) ] in
          let next : l ≡ b.last + 1 = next_is is b.last l h.last j laid h.at_last at behind in
          h.ends_at j (subst (λ (m : ℕ). slice_get is m ≡ Some j) next at)
    ]

pub blocks_lead_to_blocks : (is : List Instruction) (blocks : List Block) (b : Block) (x : ℕ) → IsLaidOut is → AreBlocks is blocks → Contains blocks b → Contains b.successors x
    → (c : Block) × Contains blocks c × (c.pc ≡ x)
blocks_lead_to_blocks is blocks b x laid are there_b leads =
    let known = (are.all b).0 there_b in
    let h = known.0 in
    let ordered : b.first ≤ b.last = h.ordered in
    let inside : Contains is h.last = contains_at is b.last h.last h.at_last in
    let at_end : IsReached is h.last.pc = reached_inside is b b.last h.last laid h ordered (omega arith) h.at_last known.1 in
    let leads_last : Contains h.last.successors x = subst (λ (l : List ℕ). Contains l x) h.leads leads in
    let j = laid.closed h.last x inside leads_last in
    let place : slice_get is j.1.0 ≡ Some j.0 = place_of is j.0 j.1 in
    let leads_j : Contains h.last.successors j.0.pc = subst (λ (y : ℕ). Contains h.last.successors y) (sym j.2) leads_last in
    let starts : begins is j.0.pc ≡ true = begins_next is b j.0 j.1.0 laid h leads_j place in
    let c = run_in is j.1.0 j.1.0 (slice_get_within is j.1.0 j.0 place) (run_one is j.1.0 (λ o more. ap (λ (i : Instruction). begins is i.pc) (same_at is j.1.0 o j.0 more place) ∙ starts)) in
    let first_is : c.is_block.first ≡ j.0 = same_at is j.1.0 c.is_block.first j.0 (subst (λ (m : ℕ). slice_get is m ≡ Some c.is_block.first) c.begins_with c.is_block.at_first) place in
    let pc_is : c.block.pc ≡ x = sym c.is_block.place ∙ ap (λ (i : Instruction). i.pc) first_is ∙ j.2 in
    (c.block, (are.all c.block).1 (c.is_block, subst (λ (y : ℕ). IsReached is y) (sym pc_is) (onward h.last inside at_end leads_last)), pc_is)

run_of : (is : List Instruction) (b : Block) → IsBlock is b → IsRun is b.first b.last
run_of is b h = record {
  ordered = h.ordered;
  begins_at = λ i at. ap (λ (j : Instruction). begins is j.pc) (same_at is b.first i h.first at h.at_first) ∙ ap (λ (x : ℕ). begins is x) h.place ∙ h.begins_at;
  inside = h.inside;
}

block_of : (is : List Instruction) (b : Block) → IsBlock is b → IsBlockOf is b.first b.last b
block_of is b h = record {
  first = h.first;
  last = h.last;
  at_first = h.at_first;
  at_last = h.at_last;
  is_block =
      ap (λ (x : ℕ). let c : Block = record { pc = x; first = b.first; last = b.last; successors = b.successors } in c) (sym h.place)
      ∙ ap (λ (s : List ℕ). let c : Block = record { pc = h.first.pc; first = b.first; last = b.last; successors = s } in c) h.leads;
}

pub blocks_are_apart : (is : List Instruction) (b c : Block) (k : ℕ) → IsBlock is b → IsBlock is c → IsInside b k → IsInside c k → b ≡ c
blocks_are_apart is b c k h g in_b in_c =
    let low_b = in_b.0 in
    let high_b = in_b.1 in
    let low_c = in_c.0 in
    let high_c = in_c.1 in
    elim (cases_lt c.last b.last) [
      | inl lt ↦ sym (run_is is b.first b.last c b (run_of is b h) (block_of is b h) g (omega arith) (omega arith))
      | inr le ↦ run_is is c.first c.last b c (run_of is c g) (block_of is c g) h (omega arith) le
    ]
