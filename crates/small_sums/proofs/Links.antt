-- Places linked bucket by bucket.
use Rattle.std.specs.Prelude.{◌≡◌, ℕ, suc, ◌+◌, ◌%◌, ◌<◌, ◌≤◌, List, length, replicate}
use Rattle.std.proofs.Common.{arith, sym, ap, ◌∙◌, subst, get_or, set, ⊎_elim}
use Rattle.std.proofs.lemmas.Bool.{cases_lt, cases_eq}
use Rattle.std.proofs.lemmas.List.{length-set, get_or-set_other, get_or-set_same, length-replicate, get_or-replicate, get_or_past, get_or_default}
use Rattle.small_sums.specs.inside.Chains.{AreLinked, AreHeads}

-- ---- a place more
-- the bucket of the n-th key
abbrev bucket : ℕ → ℕ → List ℕ → ℕ
bucket n h keys = get_or keys n 0 % h

module _ (n h : ℕ) (keys heads links : List ℕ) (inside : n < length keys) (heads_are : AreHeads n h keys heads) (links_are : AreLinked n h keys links) where
  b : ℕ
  b = get_or keys n 0 % h

  below : b < length heads
  unfolding b
  below = let s = heads_are.some in let c = heads_are.count in omega (arith, s, c)

  heads_now : List ℕ
  heads_now = set heads b (n + 1)

  links_now : List ℕ
  links_now = set links n (get_or heads b 0)

  head_here : get_or heads_now b 0 ≡ n + 1
  unfolding heads_now
  head_here = get_or-set_same heads b (n + 1) 0 below

  head_other : (x : ℕ) → (x ≡ b → ⊥) → get_or heads_now x 0 ≡ get_or heads x 0
  unfolding heads_now
  head_other x ne = get_or-set_other heads b x (n + 1) 0 ne

  link_here : get_or links_now n 0 ≡ get_or heads b 0
  unfolding links_now
  link_here = get_or-set_same links n (get_or heads b 0) 0 (omega (arith, inside, links_are.count))

  link_other : (x : ℕ) → (x ≡ n → ⊥) → get_or links_now x 0 ≡ get_or links x 0
  unfolding links_now
  link_other x ne = get_or-set_other links n x (get_or heads b 0) 0 ne

  within : (x : ℕ) → get_or heads_now x 0 ≤ n + 1
  within x = ⊎_elim
      (λ (e : x ≡ b). subst (λ (y : ℕ). get_or heads_now y 0 ≤ n + 1) (sym e) (omega (arith, head_here)))
      (λ ne. omega (arith, head_other x ne, heads_are.within x)) (cases_eq x b)

  same : (x i : ℕ) → x < h → get_or heads_now x 0 ≡ suc i → get_or keys i 0 % h ≡ x
  unfolding b
  same x i lt e = ⊎_elim
      (λ (f : x ≡ b).
      let at : i ≡ n = omega (arith, e, ap (λ (y : ℕ). get_or heads_now y 0) f, head_here) in
      ap (λ (y : ℕ). get_or keys y 0 % h) at ∙ sym f)
      (λ ne. heads_are.same x i lt (sym (head_other x ne) ∙ e)) (cases_eq x b)

  hold : (i : ℕ) → i < n + 1 → i < get_or heads_now (get_or keys i 0 % h) 0
  unfolding b
  hold i lt = ⊎_elim
      (λ (f : get_or keys i 0 % h ≡ b). omega (arith, lt, ap (λ (y : ℕ). get_or heads_now y 0) f, head_here))
      (λ ne. ⊎_elim (λ less. omega (arith, head_other (get_or keys i 0 % h) ne, heads_are.hold i less)) (λ le.
      let at : i ≡ n = omega (arith, lt, le) in
      absurd (ne (ap (λ (y : ℕ). get_or keys y 0 % h) at))) (cases_lt i n)) (cases_eq (get_or keys i 0 % h) b)

  pub heads_more : AreHeads (n + 1) h keys (set heads (get_or keys n 0 % h) (n + 1))
  unfolding heads_now b
  heads_more = record { some = heads_are.some; count = length-set heads (get_or keys n 0 % h) (n + 1) ∙ heads_are.count; within = within; same = same; hold = hold }

  link_within : (j : ℕ) → j < n + 1 → get_or links_now j 0 ≤ j
  link_within j lt = ⊎_elim
      (λ (e : j ≡ n). subst (λ (y : ℕ). get_or links_now y 0 ≤ y) (sym e) (omega (arith, link_here, heads_are.within b)))
      (λ ne. omega (arith, link_other j ne, links_are.within j (omega (arith, lt, ne)))) (cases_eq j n)

  link_same : (j i : ℕ) → j < n + 1 → get_or links_now j 0 ≡ suc i → get_or keys i 0 % h ≡ get_or keys j 0 % h
  unfolding b
  link_same j i lt e = ⊎_elim
      (λ (f : j ≡ n).
      let from : get_or heads b 0 ≡ suc i = sym link_here ∙ ap (λ (y : ℕ). get_or links_now y 0) (sym f) ∙ e in
      heads_are.same b i (omega (arith, below, heads_are.count)) from ∙ ap (λ (y : ℕ). get_or keys y 0 % h) (sym f))
      (λ ne. links_are.same j i (omega (arith, lt, ne)) (sym (link_other j ne) ∙ e)) (cases_eq j n)

  link_hold : (j i : ℕ) → j < n + 1 → i < j → get_or keys i 0 % h ≡ get_or keys j 0 % h → i < get_or links_now j 0
  unfolding b
  link_hold j i lt before e = ⊎_elim
      (λ (f : j ≡ n).
      let there : get_or keys i 0 % h ≡ b = e ∙ ap (λ (y : ℕ). get_or keys y 0 % h) f in
      let held : i < get_or heads (get_or keys i 0 % h) 0 = heads_are.hold i (omega (arith, before, f)) in
      let moved : get_or links_now j 0 ≡ get_or heads b 0 = ap (λ (y : ℕ). get_or links_now y 0) f ∙ link_here in
      omega (arith, moved, held, ap (λ (y : ℕ). get_or heads y 0) there))
      (λ ne. omega (arith, link_other j ne, links_are.hold j i (omega (arith, lt, ne)) before e)) (cases_eq j n)

  pub links_more : AreLinked (n + 1) h keys (set links n (get_or heads (get_or keys n 0 % h) 0))
  unfolding links_now b
  links_more = record { count = length-set links n (get_or heads (get_or keys n 0 % h) 0) ∙ links_are.count; within = link_within; same = link_same; hold = link_hold }

-- the same with what the code reads
pub heads_step : (n h k b : ℕ) (keys heads links : List ℕ) → n < length keys → k ≡ get_or keys n k → b ≡ k % h → AreHeads n h keys heads → AreLinked n h keys links → AreHeads (n + 1) h keys (set heads b (n + 1))
heads_step n h k b keys heads links inside read is hs ls =
    let same : get_or keys n 0 % h ≡ b = ap (λ (x : ℕ). x % h) (get_or_default keys n 0 k inside ∙ sym read) ∙ sym is in
    subst (λ (x : ℕ). AreHeads (n + 1) h keys (set heads x (n + 1))) same (heads_more n h keys heads links inside hs ls)

pub links_step : (n h k b x : ℕ) (keys heads links : List ℕ) → n < length keys → k ≡ get_or keys n k → b ≡ k % h → b < length heads → x ≡ get_or heads b x → AreHeads n h keys heads → AreLinked n h keys links → AreLinked (n + 1) h keys (set links n x)
links_step n h k b x keys heads links inside read is below found hs ls =
    let same : get_or keys n 0 % h ≡ b = ap (λ (y : ℕ). y % h) (get_or_default keys n 0 k inside ∙ sym read) ∙ sym is in
    let at : get_or heads (get_or keys n 0 % h) 0 ≡ x = ap (λ (y : ℕ). get_or heads y 0) same ∙ get_or_default heads b 0 x below ∙ sym found in
    subst (λ (y : ℕ). AreLinked (n + 1) h keys (set links n y)) at (links_more n h keys heads links inside hs ls)

-- ---- no place yet
none_at : (h x : ℕ) → ◌≡◌ {A = ℕ} (get_or (replicate h 0) x 0) 0
none_at h x = ⊎_elim (λ lt. get_or-replicate h x 0 0 lt) (λ le. get_or_past (replicate h 0) x 0 (past le)) (cases_lt x h)
  where
    past : h ≤ x → length (replicate {A = ℕ} h 0) ≤ x
    past le = subst (λ (n : ℕ). n ≤ x) (sym (length-replicate {A = ℕ} h 0)) le

pub no_heads : (h : ℕ) (keys : List ℕ) → 0 < h → AreHeads 0 h keys (replicate h 0)
no_heads h keys some = record {
  some = some;
  count = length-replicate h 0;
  within = λ b. omega (arith, none_at h b);
  same = λ b i lt e. absurd (omega (arith, none_at h b, e));
  hold = λ i lt. absurd (omega (arith, lt));
}

pub no_links : (h : ℕ) (keys : List ℕ) → AreLinked 0 h keys (replicate (length keys) 0)
no_links h keys = record {
  count = length-replicate (length keys) 0;
  within = λ j lt. absurd (omega (arith, lt));
  same = λ j i lt e. absurd (omega (arith, lt));
  hold = λ j i lt before e. absurd (omega (arith, lt));
}
