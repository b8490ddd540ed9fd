-- Steps of a loop over the slots of a pool, from the last on.
use Rattle.std.proofs.Common.{◌≡◌, ℕ, suc, ◌-◌, ◌<◌, ◌≤◌, true, false, cond, List, ◌∷◌, length, drop, get_or, Option, Some, refl, sym, ap, subst, ◌∙◌, arith, drop-cons}
use Rattle.std.specs.Prelude.{unwrap_or}
use Rattle.std.specs.Map.{update}
use Rattle.std.specs.Ordering.{nat_cmp}
use Rattle.std.specs.Str.{bytes_eq}
use Rattle.std.specs.Cmp.Lexicographic.{slice_cmp}
use Rattle.std.specs.BTreeMap as tree
use Rattle.std.specs.BTreeMap.{BTreeMap}
use Rattle.std.specs.Borrow.{Bor}
use Rattle.class_pool.specs.declared.constant.Constant.{Constant}
use Rattle.class_writer.specs.Writing.{is_named, index_from}
use Rattle.class_writer.specs.Indexing.{index_in, HasFirst, Notes}

abbrev Table : Type 0
Table = BTreeMap (Bor (List ℕ)) ℕ

-- the index of a name that was put
pub notes_one : (text : List ℕ) (index : ℕ) (old new : Table) → ((x : List ℕ) → tree.get_by (λ k. slice_cmp nat_cmp x k.now) new ≡ update bytes_eq (λ y. tree.get_by (λ k. slice_cmp nat_cmp y k.now) old) text (Some index) x)
    → Notes (Some text) index old new
notes_one text index old new put x =
    let before : Option ℕ = tree.get_by (λ k. slice_cmp nat_cmp x k.now) old in
    ap (λ o. unwrap_or o 0) (put x) ∙ elim (bytes_eq text x) as (λ b. unwrap_or (cond b (Some index) before) 0 ≡ cond b index (unwrap_or before 0)) [ true ↦ refl | false ↦ refl ]

before_others : (name_of : Option Constant → Option (List ℕ)) (slots : List (Option Constant)) (i : ℕ) (slot : Option Constant) (name : Option (List ℕ)) (old new : Table) → i < length slots → slot ≡ get_or slots i slot → name ≡ name_of slot
    → HasFirst name_of (suc (suc i)) (drop (suc i) slots) old → Notes name (suc i) old new → HasFirst name_of (suc i) (drop i slots) new
before_others name_of slots i slot name old new lt is named has notes x =
    let first : slot ∷ drop (suc i) slots ≡ drop i slots = ap (λ (s : Option Constant). s ∷ drop (suc i) slots) is ∙ sym (drop-cons slots i slot lt) in
    notes x ∙ ap (λ (o : Option (List ℕ)). cond (is_named x o) (suc i) (index_in old x)) named ∙ ap (λ (n : ℕ). cond (is_named x (name_of slot)) (suc i) n) (has x) ∙ ap (λ ys. index_from name_of x (suc i) ys) first

-- one more slot, in front of the others
pub index_more : (name_of : Option Constant → Option (List ℕ)) (slots : List (Option Constant)) (index : ℕ) (slot : Option Constant) (name : Option (List ℕ)) (old new : Table) → 0 < index → index ≤ length slots → slot ≡ get_or slots (index - 1) slot → name ≡ name_of slot
    → HasFirst name_of (suc index) (drop index slots) old → Notes name index old new → HasFirst name_of (suc (index - 1)) (drop (index - 1) slots) new
index_more name_of slots index slot name old new pos le is named has notes =
    let e : index ≡ suc (index - 1) = omega arith in
    before_others name_of slots (index - 1) slot name old new (omega arith) is named
    (subst (λ (i : ℕ). HasFirst name_of (suc i) (drop i slots) old) e has)
    (subst (λ (i : ℕ). Notes name i old new) e notes)
