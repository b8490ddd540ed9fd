-- Blocks that are cut one after another.
use Rattle.std.proofs.Common.{◌≡◌, inl, inr, ℕ, zero, suc, ◌+◌, ◌<◌, ◌≤◌, Bool, true, false, List, [], ◌∷◌, ◌++◌, length, get_or, Option, Some, arith, refl, sym, ap, subst, ◌∙◌}
use Rattle.std.specs.Prelude.{slice_get, Contains, AllPairs, All}
use Rattle.std.proofs.lemmas.Bool.{cases_lt}
use Rattle.std.proofs.lemmas.Option.{slice_get_within, slice_get_cases}
use Rattle.std.proofs.lemmas.List.Elements.{Contains-append_left, Contains-push, Contains-push_cases}
use Rattle.std.proofs.lemmas.List.Kept.{AllPairs-cons}
use Rattle.common_laws.proofs.Members.{contains_head, contains_tail, contains_none}
use Rattle.common_laws.proofs.Orders.{head_before, tail_pairs}
use Rattle.code_blocks.specs.declared.instruction.Instruction.{Instruction}
use Rattle.code_blocks.specs.declared.instruction.Block.{Block}
use Rattle.code_blocks.specs.Blocks.{begins, IsReached, IsBlock, AreBlocks}
use Rattle.code_blocks.specs.inside.Cutting.{cut_before, is_cut, IsBlockOf, IsRun, AreBlocksTo}

-- ---- lists

module _ {A : Type 0} where
  at_member : (xs : List A) (k : ℕ) (d : A) → k < length xs → Contains xs (get_or xs k d)
  at_member [] k d lt = absurd (omega arith)
  at_member (x ∷ xs) zero d lt = contains_head x xs
  at_member (x ∷ xs) (suc k) d lt = contains_tail x xs (get_or xs k d) (at_member xs k d (omega arith))

  -- what stands at a place of a list
  pub there : (xs : List A) (k : ℕ) → k < length xs → (x : A) × (slice_get xs k ≡ Some x)
  there xs k lt = elim (slice_get_cases xs k).1 [ inl h ↦ (h.0, h.2) | inr h ↦ let le = h.0 in absurd (omega arith) ]

  pub same_at : (xs : List A) (k : ℕ) (x y : A) → slice_get xs k ≡ Some x → slice_get xs k ≡ Some y → x ≡ y
  same_at xs k x y e f = let g : Some x ≡ Some y = sym e ∙ f in cc

  all_push : (P : A → Type 0) (xs : List A) (y : A) → ((u : A) → Contains xs u → P u) → P y → All P (xs ++ y ∷ [])
  all_push P xs y h last = λ k d lt.
      elim (Contains-push_cases xs y (get_or (xs ++ y ∷ []) k d) (at_member (xs ++ y ∷ []) k d lt)) [
        | inl before ↦ h (get_or (xs ++ y ∷ []) k d) before
        | inr same ↦ subst P same last
      ]

  pub pairs_push : (R : A → A → Type 0) (xs : List A) (y : A) → AllPairs R xs → ((u : A) → Contains xs u → R u y) → AllPairs R (xs ++ y ∷ [])
  pairs_push R [] y h last = λ i j d lt within. absurd (omega arith)
  pairs_push R (x ∷ xs) y h last =
      AllPairs-cons R x (xs ++ y ∷ []) (all_push (R x) xs y (λ u c. head_before R x xs u h c) (last x (contains_head x xs)))
      (pairs_push R xs y (tail_pairs R x xs h) (λ u c. last u (contains_tail x xs u c)))

-- ---- blocks

make : ℕ → ℕ → ℕ → List ℕ → Block
make p f l s = record { pc = p; first = f; last = l; successors = s }

made_same : (p q f g l m : ℕ) (s t : List ℕ) → p ≡ q → f ≡ g → l ≡ m → s ≡ t → make p f l s ≡ make q g m t
made_same p q f g l m s t a b c d = ap (λ x. make x f l s) a ∙ ap (λ x. make q x l s) b ∙ ap (λ x. make q g x s) c ∙ ap (λ x. make q g m x) d

pub block_same : (is : List Instruction) (f l : ℕ) (b c : Block) → IsBlock is b → IsBlockOf is f l c → b.first ≡ f → b.last ≡ l → b ≡ c
unfolding make
block_same is f l b c h of e g =
    let one : h.first ≡ of.first = same_at is f h.first of.first (subst (λ (k : ℕ). slice_get is k ≡ Some h.first) e h.at_first) of.at_first in
    let other : h.last ≡ of.last = same_at is l h.last of.last (subst (λ (k : ℕ). slice_get is k ≡ Some h.last) g h.at_last) of.at_last in
    made_same b.pc of.first.pc b.first f b.last l b.successors of.last.successors
    (sym h.place ∙ ap (λ (i : Instruction). i.pc) one) e g (h.leads ∙ ap (λ (i : Instruction). i.successors) other)
    ∙ sym of.is_block

-- the block of a run that is cut
pub run_block : (is : List Instruction) (f l : ℕ) (c : Block) → IsRun is f l → is_cut is l ≡ true → IsBlockOf is f l c → IsBlock is c
run_block is f l c run cut of =
    subst (λ (b : Block). IsBlock is b) (sym of.is_block) (record {
      first = of.first;
      last = of.last;
      at_first = of.at_first;
      at_last = of.at_last;
      ordered = run.ordered;
      place = refl;
      begins_at = run.begins_at of.first of.at_first;
      inside = run.inside;
      ends_at = λ i at. sym (ap (λ (o : Option Instruction). cut_before is o) at) ∙ cut;
      leads = refl;
    })

not_both : (b : Bool) → b ≡ true → b ≡ false → ⊥
not_both b e f = let g : true ≡ false = sym e ∙ f in absurd cc

lasts_same : (is : List Instruction) (f l : ℕ) (b : Block) (o : Instruction) → slice_get is l ≡ Some o → IsRun is f l → IsBlock is b → f ≤ b.last → b.last ≤ l → b.last ≡ l
lasts_same is f l b o at run h low high =
    elim (cases_lt b.last l) [
      | inl lt ↦
          let next = there is (b.last + 1) (let within : l < length is = slice_get_within is l o at in omega arith) in
          absurd (not_both (begins is next.0.pc) (h.ends_at next.0 next.1) (run.inside (b.last + 1) next.0 (omega arith) (omega arith) next.1))
      | inr le ↦ omega arith
    ]

firsts_same : (is : List Instruction) (f l : ℕ) (b : Block) (o : Instruction) → slice_get is l ≡ Some o → IsRun is f l → IsBlock is b → f ≤ b.last → b.last ≤ l → b.first ≡ f
firsts_same is f l b o at run h low high =
    let ordered : b.first ≤ b.last = h.ordered in
    elim (cases_lt b.first f) [
      | inl lt ↦
          let first = there is f (let within : l < length is = slice_get_within is l o at in omega arith) in
          absurd (not_both (begins is first.0.pc) (run.begins_at first.0 first.1) (h.inside f first.0 lt low first.1))
      | inr le ↦ elim (cases_lt f b.first) [
        | inl lt ↦
            let starts : begins is h.first.pc ≡ true = ap (λ (x : ℕ). begins is x) h.place ∙ h.begins_at in
            absurd (not_both (begins is h.first.pc) starts (run.inside b.first h.first lt (omega arith) h.at_first))
        | inr ge ↦ omega arith
      ]
    ]

pub run_is : (is : List Instruction) (f l : ℕ) (b c : Block) → IsRun is f l → IsBlockOf is f l c → IsBlock is b → f ≤ b.last → b.last ≤ l → b ≡ c
run_is is f l b c run of h low high =
    block_same is f l b c h of (firsts_same is f l b of.last of.at_last run h low high) (lasts_same is f l b of.last of.at_last run h low high)

-- ---- block after block

pub blocks_none : (is : List Instruction) (bs : List Block) → bs ≡ [] → AreBlocksTo is 0 bs
blocks_none is bs e = record {
  order = subst (λ l. AllPairs (λ (a b : Block). a.last < b.first) l) (sym e) (λ i j d lt within. absurd (omega arith));
  all = λ b. (λ h. absurd (contains_none b (subst (λ l. Contains l b) e h)), λ h. let n = h.2 in absurd (omega arith));
}

-- successors lead to the next one
pub blocks_next : (is : List Instruction) (f l : ℕ) (bs more : List Block) (c : Block) → AreBlocksTo is f bs → IsRun is f l → is_cut is l ≡ true → IsBlockOf is f l c
    → IsReached is c.pc → more ≡ bs ++ c ∷ [] → AreBlocksTo is (l + 1) more
blocks_next is f l bs more c h run cut of reached e =
    let ordered : f ≤ l = run.ordered in
    let place : c.first ≡ f = ap (λ (b : Block). b.first) of.is_block in
    let behind : c.last ≡ l = ap (λ (b : Block). b.last) of.is_block in
    subst (λ bs. AreBlocksTo is (l + 1) bs) (sym e) (record {
      order = pairs_push (λ (a b : Block). a.last < b.first) bs c h.order (λ u there. let before = ((h.all u).0 there).2 in omega arith);
      all = λ b. (
        λ there. elim (Contains-push_cases bs c b there) [
          | inl old ↦ let known = (h.all b).0 old in let before = known.2 in (known.0, known.1, omega arith)
          | inr same ↦ subst (λ (b : Block). IsBlock is b × IsReached is b.pc × (b.last < l + 1)) same (run_block is f l c run cut of, reached, omega arith)
        ],
        λ known. let before = known.2 in elim (cases_lt b.last f) [
          | inl lt ↦ Contains-append_left bs (c ∷ []) b ((h.all b).1 (known.0, known.1, lt))
          | inr le ↦ subst (λ (u : Block). Contains (bs ++ c ∷ []) u) (sym (run_is is f l b c run of known.0 le (omega arith))) (Contains-push bs c)
        ],
      );
    })

-- they don't
pub blocks_skip : (is : List Instruction) (f l : ℕ) (bs : List Block) (c : Block) → AreBlocksTo is f bs → IsRun is f l → IsBlockOf is f l c
    → (IsReached is c.pc → ⊥) → AreBlocksTo is (l + 1) bs
blocks_skip is f l bs c h run of never =
    let ordered : f ≤ l = run.ordered in
    record {
      order = h.order;
      all = λ b. (
        λ there. let known = (h.all b).0 there in let before = known.2 in (known.0, known.1, omega arith),
        λ known. let before = known.2 in elim (cases_lt b.last f) [
          | inl lt ↦ (h.all b).1 (known.0, known.1, lt)
          | inr le ↦ absurd (never (subst (λ (u : Block). IsReached is u.pc) (run_is is f l b c run of known.0 le (omega arith)) known.1))
        ],
      );
    }

pub blocks_all : (is : List Instruction) (n : ℕ) (bs : List Block) → length is ≤ n → AreBlocksTo is n bs → AreBlocks is bs
blocks_all is n bs le h = record {
  order = h.order;
  all = λ b. (
    λ there. let known = (h.all b).0 there in (known.0, known.1),
    λ known. (h.all b).1 (known.0, known.1, let within : b.last < length is = slice_get_within is b.last known.0.last known.0.at_last in omega arith),
  );
}

-- ---- runs

-- one instruction alone
pub run_one : (is : List Instruction) (k : ℕ) → ((i : Instruction) → slice_get is k ≡ Some i → begins is i.pc ≡ true) → IsRun is k k
run_one is k h = record { ordered = omega arith; begins_at = h; inside = λ j i low high at. absurd (omega arith) }

-- a run that isn't cut goes on
pub run_more : (is : List Instruction) (f l : ℕ) → IsRun is f l → is_cut is l ≡ false → IsRun is f (l + 1)
run_more is f l run uncut = record {
  ordered = let h : f ≤ l = run.ordered in omega arith;
  begins_at = run.begins_at;
  inside = λ k i low high at. elim (cases_lt k (l + 1)) [
    | inl lt ↦ run.inside k i low (omega arith) at
    | inr le ↦ let e : k ≡ l + 1 = omega arith in
        sym (ap (λ (o : Option Instruction). cut_before is o) (subst (λ (n : ℕ). slice_get is n ≡ Some i) e at)) ∙ uncut
  ];
}

-- behind a cut a run begins
pub run_next : (is : List Instruction) (l : ℕ) → is_cut is l ≡ true → IsRun is (l + 1) (l + 1)
run_next is l cut = run_one is (l + 1) (λ i at. sym (ap (λ (o : Option Instruction). cut_before is o) at) ∙ cut)

-- where it isn't cut there is a next one
pub uncut_inside : (is : List Instruction) (l : ℕ) → is_cut is l ≡ false → l + 1 < length is
uncut_inside is l uncut =
    elim (slice_get_cases is (l + 1)).1 [
      | inl h ↦ h.1
      | inr h ↦ absurd (not_both (is_cut is l) (ap (λ (o : Option Instruction). cut_before is o) h.1) uncut)
    ]
