-- Code of which each instruction stands as it should is sound.
use Rattle.std.proofs.Common.{◌≡◌, ◌⊎◌, inl, inr, ℕ, ◌+◌, ◌<◌, ◌≤◌, Bool, true, false, List, length, get_or, Option, Some, None, arith, refl, sym, subst, ◌∙◌, Contains}
use Rattle.std.specs.Prelude.{not, ◌&&◌}
use Rattle.std.specs.Option.{is_some}
use Rattle.std.proofs.lemmas.List.{get_or_default}
use Rattle.std.proofs.lemmas.List.Elements.{All-contains_itself}
use Rattle.op_table.specs.Actions.{action_of}
use Rattle.code_blocks.specs.declared.instruction.Placed.{Placed}
use Rattle.code_blocks.specs.Placing.{placed, broken, is_last}
use Rattle.code_blocks.specs.Successors.{goes_behind, has_bad_target}
use Rattle.code_blocks.specs.Laws.{IsSound}
use Rattle.kind_cases.specs.Soundness.{stands}

pub at_place : (code : List ℕ) (ps : List Placed) (k : ℕ) (d : Placed) → ps ≡ placed code → k < length ps → Contains (placed code) (get_or ps k d)
at_place code ps k d e lt = subst (λ l. Contains l (get_or ps k d)) e (All-contains_itself ps k d lt)

pub item_placed : (code : List ℕ) (ps : List Placed) (k : ℕ) (p : Placed) → ps ≡ placed code → k < length ps → p ≡ get_or ps k p → Contains (placed code) p
item_placed code ps k p e lt is = subst (λ q. Contains (placed code) q) (sym is) (at_place code ps k p e lt)

last_or_before : (k n : ℕ) → k < n + 1 → (k < n) ⊎ (k ≡ n)
last_or_before k n lt = grind arith

pub one_more : (code : List ℕ) (ps : List Placed) (n : ℕ) (p : Placed) → ((k : ℕ) (d : Placed) → k < n → stands code (get_or ps k d) ≡ true)
    → n < length ps → p ≡ get_or ps n p → stands code p ≡ true → (k : ℕ) (d : Placed) → k < n + 1 → stands code (get_or ps k d) ≡ true
one_more code ps n p before lt is here k d le = elim (last_or_before k n le) [
  | inl less ↦ before k d less
  | inr same ↦ subst (λ j. stands code (get_or ps j d) ≡ true) (sym same) (subst (λ q. stands code q ≡ true) (is ∙ get_or_default ps n p d lt) here)
]

first_false : (a b : Bool) → (not a && b) ≡ true → a ≡ false
first_false false b e = refl
first_false true b e = absurd cc

second_true : (a b : Bool) → (a && b) ≡ true → b ≡ true
second_true true b e = e
second_true false b e = absurd cc

pub none_left : (a b : Bool) → not (a && b) ≡ true → a ≡ true → b ≡ false
none_left true false e t = refl
none_left true true e t = absurd cc
none_left false b e t = absurd cc

pub is_none : {A : Type 0} (found : Option A) (there : Bool) → there ≡ is_some found → there ≡ false → found ≡ None
is_none None there e f = refl
is_none (Some x) there e f = absurd cc

pub all_stand : (code : List ℕ) (ps : List Placed) (n : ℕ) → ps ≡ placed code → broken code ≡ None → length ps ≤ n
    → ((k : ℕ) (d : Placed) → k < n → stands code (get_or ps k d) ≡ true) → IsSound code
all_stand code ps n e whole le all = record {
  whole = whole;
  jumps = λ p h. first_false (has_bad_target code p) _ (each p h);
  stays = λ p h last. none_left (is_last code p) (goes_behind (action_of p.instr)) (second_true (not (has_bad_target code p)) _ (each p h)) last;
}
  where
    each : (p : Placed) → Contains (placed code) p → stands code p ≡ true
    each p h =
        let there : Contains ps p = subst (λ l. Contains l p) (sym e) h in
        subst (λ q. stands code q ≡ true) there.2 (all there.0 p (let lt = there.1 in omega arith))
