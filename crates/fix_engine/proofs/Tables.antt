-- how the rows of the table of readers are filled, and what the full table says
use Rattle.std.proofs.Common.{replicate, ◌^◌, ◌≡◌, ◌≢◌, ℕ, zero, suc, ◌+◌, ◌-◌, ◌<◌, ◌≤◌, Option, Some, None, List, [], ◌∷◌, length, get_or, set, All, Contains, refl, sym, ◌∙◌, ap, ⊎_elim, subst, arith, add-one, get_or-set_same, get_or-set_other}
use Rattle.std.proofs.lemmas.Bool.{cases_eq, cases_lt}
use Rattle.std.specs.List.{sum_by, slice_range}
use Rattle.std.proofs.lemmas.List.{length-set, length-replicate, get_or_default, get_or_past, get_or-replicate}
use Rattle.std.proofs.lemmas.List.Sums.{sum_by-cons}
use Rattle.std.proofs.lemmas.List.Edits.{length-between, get_or-between}
use Rattle.std.proofs.lemmas.List.Elements.{All-set, All-take, All-drop, All-contains, Contains-get_or}
use Rattle.std.specs.Prelude.{slice_get}
use Rattle.std.proofs.lemmas.Option.{get_or_from_slice_get, slice_get-get_or}
use Rattle.fix_engine.specs.Problem.{Problem}
use Rattle.fix_engine.specs.Lawful.{IsLawful}
use Rattle.fix_engine.specs.Order.{Order}
use Rattle.fix_engine.specs.Agenda.{Waiting, Grows}
use Rattle.fix_engine.specs.Readers.{reads, AreReaders, AreOffsets, AllWait, readers_of, rows_from, rows_of}
use Rattle.fix_engine.specs.Counting.{hit, also_hit, reads_of, sum_below, AreCounts, IsPlaced, AreFilled, ArePlaced}
use Rattle.fix_engine.proofs.Counts.{hit_same, hit_other, sum_below-le, sum_below-same, sum_below-reads_of, reads_of-le, reads_small}

-- a row in a table of rows
rows_from-length : (a : ℕ) (ends list : List ℕ) → length (rows_from a ends list) ≡ length ends
rows_from-length a [] list = refl
rows_from-length a (b ∷ ends) list = ap (λ (n : ℕ). suc n) (rows_from-length b ends list)

rows_from-at : (a : ℕ) (ends list : List ℕ) (k : ℕ) → k < length ends → get_or (rows_from a ends list) k [] ≡ slice_range list (get_or (a ∷ ends) k 0) (get_or ends k 0)
rows_from-at a [] list k l = absurd (omega arith)
rows_from-at a (b ∷ ends) list zero l = refl
rows_from-at a (b ∷ ends) list (suc k) l = rows_from-at b ends list k (omega arith)

rows_from-total : (a : ℕ) (ends list : List ℕ) → AreOffsets (a ∷ ends) list → sum_by (λ (row : List ℕ). length row) (rows_from a ends list) + a ≡ get_or (a ∷ ends) (length ends) 0
rows_from-total a [] list are = omega arith
rows_from-total a (b ∷ ends) list are =
    let rest = rows_from-total b ends list (record { rising = λ k l. are.rising (suc k) (omega arith); within = λ k l. are.within (suc k) (omega arith) }) in
    let sums : sum_by (λ (row : List ℕ). length row) (slice_range list a b ∷ rows_from b ends list) ≡ length (slice_range list a b) + sum_by (λ (row : List ℕ). length row) (rows_from b ends list) = sum_by-cons (λ (row : List ℕ). length row) (slice_range list a b) (rows_from b ends list) in
    let wide : length (slice_range list a b) ≡ b - a = length-between list a b (are.within 1 (omega arith)) in
    let up : a ≤ b = are.rising 0 (omega arith) in
    omega arith

pub rows_of-length : (offsets list : List ℕ) → length (rows_of offsets list) ≡ length offsets - 1
rows_of-length [] list = omega arith
rows_of-length (a ∷ ends) list = let e = rows_from-length a ends list in omega arith

pub rows_of-at : (offsets list : List ℕ) (k : ℕ) → suc k < length offsets → get_or (rows_of offsets list) k [] ≡ slice_range list (get_or offsets k 0) (get_or offsets (suc k) 0)
rows_of-at [] list k l = absurd (omega arith)
rows_of-at (a ∷ ends) list k l = rows_from-at a ends list k (omega arith)

-- a row's bounds, as the code reads them
module _ (offsets list : List ℕ) (are : AreOffsets offsets list) (rows : List (List ℕ)) (is : rows_of offsets list ≡ rows) (k : ℕ) (l : k < length rows) where
  pub bounds_within : suc k < length offsets
  bounds_within = let e = rows_of-length offsets list in let n : length (rows_of offsets list) ≡ length rows = ap (λ (xs : List (List ℕ)). length xs) is in omega arith

  module _ (a b : ℕ) (a_is : a ≡ get_or offsets k a) (b_is : b ≡ get_or offsets (k + 1) b) where
    begin_is : a ≡ get_or offsets k 0
    begin_is = a_is ∙ get_or_default offsets k a 0 (let i = bounds_within in omega arith)

    end_is : b ≡ get_or offsets (suc k) 0
    end_is = b_is ∙ (get_or_default offsets (k + 1) b 0 (let i = bounds_within in omega arith) ∙ ap (λ (i : ℕ). get_or offsets i 0) (add-one k))

    pub bounds_rise : a ≤ b
    bounds_rise = let x = begin_is in let y = end_is in let r = are.rising k bounds_within in omega arith

    pub bounds_end : b ≤ length list
    bounds_end = let y = end_is in let r = are.within (suc k) bounds_within in omega arith

    pub row-is : (seen : List ℕ) → seen ≡ list → slice_get rows k ≡ Some (slice_range seen a b)
    row-is seen same =
        let at : get_or (rows_of offsets list) k [] ≡ slice_range seen a b = rows_of-at offsets list k bounds_within ∙ (ap (λ (x : ℕ). slice_range list x (get_or offsets (suc k) 0)) (sym begin_is) ∙ (ap (λ (y : ℕ). slice_range list a y) (sym end_is) ∙ ap (λ (xs : List ℕ). slice_range xs a b) (sym same))) in
        let row : get_or rows k [] ≡ slice_range seen a b = subst (λ (xs : List (List ℕ)). get_or xs k [] ≡ slice_range seen a b) is at in
        slice_get-get_or rows k [] l ∙ ap (λ (x : List ℕ). Some x) row

rows_of-total : (offsets list : List ℕ) (n : ℕ) → length offsets ≡ suc n → AreOffsets offsets list → sum_by (λ (row : List ℕ). length row) (rows_of offsets list) + get_or offsets 0 0 ≡ get_or offsets n 0
rows_of-total [] list n e are = absurd (omega arith)
rows_of-total (a ∷ ends) list n e are =
    let last : length ends ≡ n = omega arith in
    subst (λ (i : ℕ). sum_by (λ (row : List ℕ). length row) (rows_from a ends list) + a ≡ get_or (a ∷ ends) i 0) last (rows_from-total a ends list are)

-- one edge e more, put into the row of k
module _ (all done more : ℕ → ℕ) (points : ℕ) (offsets list : List ℕ) (was : AreFilled all done points offsets list) (k e : ℕ) (in_k : k < points) (one : (j : ℕ) → more j ≡ done j + hit k j) (few : (j : ℕ) → more j ≤ all j) where
  part : (j : ℕ) → j < points → sum_below all j ≤ get_or offsets j 0
  part j l = let a = was.at j l in let b = one j in let c = few j in omega arith

  pub put_above : 0 < get_or offsets k 0
  put_above =
      let a = was.at k in_k in let b = one k in let c = few k in let h = hit_same k in omega arith

  pub put_room : get_or offsets k 0 ≤ length list
  put_room =
      let a = was.at k in_k in let b = sum_below-le all (suc k) points (omega arith) in let c = was.room in omega arith

  -- where it is put
  place : ℕ
  place = get_or offsets k 0 - 1

  pub AreFilled-put : AreFilled all more points (set offsets k (get_or offsets k 0 - 1)) (set list (get_or offsets k 0 - 1) e)
  AreFilled-put =
      record {
        count = length-set offsets k (get_or offsets k 0 - 1) ∙ was.count;
        room = length-set list (get_or offsets k 0 - 1) e ∙ was.room;
        at = λ j l. ⊎_elim (λ (s : j ≡ k). subst (λ (i : ℕ). get_or (set offsets k (get_or offsets k 0 - 1)) i 0 + more i ≡ sum_below all (suc i)) (sym s) (let here = get_or-set_same offsets k (get_or offsets k 0 - 1) 0 (omega (arith, in_k, was.count)) in let a = was.at k in_k in let b = one k in let h = hit_same k in let p = put_above in omega arith)) (λ (o : j ≢ k). let there = get_or-set_other offsets k j (get_or offsets k 0 - 1) 0 o in let a = was.at j l in let b = one j in let h = hit_other k j (λ s. o (sym s)) in omega arith) (cases_eq j k);
      }

  pub IsPlaced-put : IsPlaced all (set offsets k (get_or offsets k 0 - 1)) (set list (get_or offsets k 0 - 1) e) k e
  IsPlaced-put =
      let above = put_above in
      let room = put_room in
      let end : get_or offsets k 0 - 1 < sum_below all (suc k) = let a = was.at k in_k in omega arith in
      let here = get_or-set_same offsets k (get_or offsets k 0 - 1) 0 (omega (arith, in_k, was.count)) in
      (get_or offsets k 0 - 1, omega arith, end, get_or-set_same list (get_or offsets k 0 - 1) e 0 (omega arith))

  -- the place is in no other row's part, and below its own row's
  apart : (j i : ℕ) → j < points → get_or offsets j 0 ≤ i → i < sum_below all (suc j) → i ≢ get_or offsets k 0 - 1
  apart j i l low high s =
      let above = put_above in
      let a = was.at k in_k in
      let mine = part k in_k in
      let b = one k in
      let c = few k in
      let h = hit_same k in
      ⊎_elim (λ (lower : j < k). let m = sum_below-le all (suc j) k (omega arith) in let begin : sum_below all k ≤ get_or offsets k 0 - 1 = omega arith in omega arith) (λ (upper : k ≤ j). ⊎_elim (λ (same : j ≡ k). let at_k : get_or offsets j 0 ≡ get_or offsets k 0 = ap (λ (x : ℕ). get_or offsets x 0) same in omega arith) (λ (other : j ≢ k). let m = sum_below-le all (suc k) j (omega arith) in let theirs = part j l in omega arith) (cases_eq j k)) (cases_lt j k)

  lower_offset : (j : ℕ) → get_or (set offsets k (get_or offsets k 0 - 1)) j 0 ≤ get_or offsets j 0
  lower_offset j =
      ⊎_elim (λ (s : j ≡ k). subst (λ (i : ℕ). get_or (set offsets k (get_or offsets k 0 - 1)) i 0 ≤ get_or offsets i 0) (sym s) (let here = get_or-set_same offsets k (get_or offsets k 0 - 1) 0 (omega (arith, in_k, was.count)) in omega arith)) (λ (o : j ≢ k). let there = get_or-set_other offsets k j (get_or offsets k 0 - 1) 0 o in omega arith) (cases_eq j k)

  pub IsPlaced-kept : (j x : ℕ) → j < points → IsPlaced all offsets list j x → IsPlaced all (set offsets k (get_or offsets k 0 - 1)) (set list (get_or offsets k 0 - 1) e) j x
  IsPlaced-kept j x l h =
      let low = lower_offset j in
      (h.0, let a = h.1 in omega arith, h.2, get_or-set_other list (get_or offsets k 0 - 1) h.0 e 0 (apart j h.0 l h.1 h.2) ∙ h.3)

AreFilled-same : {all : ℕ → ℕ} {points : ℕ} {offsets list : List ℕ} (done more : ℕ → ℕ) → ((j : ℕ) → more j ≡ done j) → AreFilled all done points offsets list → AreFilled all more points offsets list
AreFilled-same done more same was =
    record { count = was.count; room = was.room; at = λ k l. let a = was.at k l in let s = same k in omega arith }

module _ {Fact : Type 0} (order : Order Fact) (p : Problem Fact) (law : IsLawful order p) where
  -- edge n, put into the row of its source, and then into that of its second point
  module _ (n : ℕ) (in_n : n < p.edges) (offsets list : List ℕ) (was : ArePlaced p n offsets list) (s : ℕ) (at_s : s ≡ p.source n) where
    in_s : s < p.points + 1
    in_s = let l = law.source n in_n in omega arith

    -- how often the edges before n and the source of n read the fact at j
    first : ℕ → ℕ
    first j = reads_of p n j + hit s j

    first_few : (j : ℕ) → reads_of p n j + hit s j ≤ reads_of p p.edges j
    first_few j =
        let same : hit s j ≡ hit (p.source n) j = ap (λ (i : ℕ). hit i j) at_s in
        let most = reads_of-le p (suc n) p.edges j (omega arith) in
        omega arith

    pub first_above : 0 < get_or offsets s 0
    first_above = put_above (reads_of p p.edges) (reads_of p n) (λ j. reads_of p n j + hit s j) (p.points + 1) offsets list was.filled s n in_s (λ j. refl) first_few

    pub first_room : get_or offsets s 0 ≤ length list
    first_room = put_room (reads_of p p.edges) (reads_of p n) (λ j. reads_of p n j + hit s j) (p.points + 1) offsets list was.filled s n in_s (λ j. refl) first_few

    filled_first : AreFilled (reads_of p p.edges) (λ j. reads_of p n j + hit s j) (p.points + 1) (set offsets s (get_or offsets s 0 - 1)) (set list (get_or offsets s 0 - 1) n)
    filled_first = AreFilled-put (reads_of p p.edges) (reads_of p n) (λ j. reads_of p n j + hit s j) (p.points + 1) offsets list was.filled s n in_s (λ j. refl) first_few

    placed_first : IsPlaced (reads_of p p.edges) (set offsets s (get_or offsets s 0 - 1)) (set list (get_or offsets s 0 - 1) n) s n
    placed_first = IsPlaced-put (reads_of p p.edges) (reads_of p n) (λ j. reads_of p n j + hit s j) (p.points + 1) offsets list was.filled s n in_s (λ j. refl) first_few

    kept_first : (j x : ℕ) → j < p.points → IsPlaced (reads_of p p.edges) offsets list j x → IsPlaced (reads_of p p.edges) (set offsets s (get_or offsets s 0 - 1)) (set list (get_or offsets s 0 - 1) n) j x
    kept_first j x l h =
        IsPlaced-kept (reads_of p p.edges) (reads_of p n) (λ j. reads_of p n j + hit s j) (p.points + 1) offsets list was.filled s n in_s (λ j. refl) first_few j x (omega arith) h

    -- what the source of an edge reads stands in its row
    source_first : (e : ℕ) → e < suc n → IsPlaced (reads_of p p.edges) (set offsets s (get_or offsets s 0 - 1)) (set list (get_or offsets s 0 - 1) n) (p.source e) e
    source_first e l =
        ⊎_elim (λ (same : e ≡ n). subst (λ (i : ℕ). IsPlaced (reads_of p p.edges) (set offsets s (get_or offsets s 0 - 1)) (set list (get_or offsets s 0 - 1) n) (p.source i) i) (sym same) (subst (λ (k : ℕ). IsPlaced (reads_of p p.edges) (set offsets s (get_or offsets s 0 - 1)) (set list (get_or offsets s 0 - 1) n) k n) at_s placed_first)) (λ (o : e ≢ n). kept_first _ e (law.source e (omega arith)) (was.source e (omega arith))) (cases_eq e n)

    within_first : All (λ e. e < p.edges) (set list (get_or offsets s 0 - 1) n)
    within_first = All-set (λ e. e < p.edges) list (get_or offsets s 0 - 1) n in_n was.within

    pub ArePlaced-one : p.also n ≡ None → ArePlaced p (n + 1) (set offsets s (get_or offsets s 0 - 1)) (set list (get_or offsets s 0 - 1) n)
    ArePlaced-one alone =
        rw add-one (record {
          filled = AreFilled-same _ _ (λ j. let same : hit s j ≡ hit (p.source n) j = ap (λ (i : ℕ). hit i j) at_s in let none : also_hit (p.also n) j ≡ 0 = ap (λ (o : Option ℕ). also_hit o j) alone in omega arith) filled_first;
          source = source_first;
          also = λ e q l h. ⊎_elim (λ (same : e ≡ n). let a : p.also n ≡ Some q = subst (λ (i : ℕ). p.also i ≡ Some q) same h in absurd (cc)) (λ (o : e ≢ n). kept_first _ e (law.also e q (omega arith) h) (was.also e q (omega arith) h)) (cases_eq e n);
          within = within_first;
        })

    module _ (q : ℕ) (both : p.also n ≡ Some q) (offsets' list' : List ℕ) (offsets_is : offsets' ≡ set offsets s (get_or offsets s 0 - 1)) (list_is : list' ≡ set list (get_or offsets s 0 - 1) n) where
      in_q : q < p.points
      in_q = law.also n q in_n both

      filled : AreFilled (reads_of p p.edges) (λ j. reads_of p n j + hit s j) (p.points + 1) offsets' list'
      filled = rw offsets_is (rw list_is filled_first)

      one_more : (j : ℕ) → reads_of p (suc n) j ≡ reads_of p n j + hit s j + hit q j
      one_more j =
          let same : hit s j ≡ hit (p.source n) j = ap (λ (i : ℕ). hit i j) at_s in let two : also_hit (p.also n) j ≡ hit q j = ap (λ (o : Option ℕ). also_hit o j) both in omega arith

      all_few : (j : ℕ) → reads_of p (suc n) j ≤ reads_of p p.edges j
      all_few j = reads_of-le p (suc n) p.edges j (omega arith)

      pub second_above : 0 < get_or offsets' q 0
      second_above = put_above (reads_of p p.edges) (λ j. reads_of p n j + hit s j) (reads_of p (suc n)) (p.points + 1) offsets' list' filled q n (omega (arith, in_q)) one_more all_few

      pub second_room : get_or offsets' q 0 ≤ length list'
      second_room = put_room (reads_of p p.edges) (λ j. reads_of p n j + hit s j) (reads_of p (suc n)) (p.points + 1) offsets' list' filled q n (omega (arith, in_q)) one_more all_few

      filled_second : AreFilled (reads_of p p.edges) (reads_of p (suc n)) (p.points + 1) (set offsets' q (get_or offsets' q 0 - 1)) (set list' (get_or offsets' q 0 - 1) n)
      filled_second = AreFilled-put (reads_of p p.edges) (λ j. reads_of p n j + hit s j) (reads_of p (suc n)) (p.points + 1) offsets' list' filled q n (omega (arith, in_q)) one_more all_few

      kept_second : (j x : ℕ) → j < p.points → IsPlaced (reads_of p p.edges) (set offsets s (get_or offsets s 0 - 1)) (set list (get_or offsets s 0 - 1) n) j x → IsPlaced (reads_of p p.edges) (set offsets' q (get_or offsets' q 0 - 1)) (set list' (get_or offsets' q 0 - 1) n) j x
      kept_second j x l h =
          IsPlaced-kept (reads_of p p.edges) (λ j. reads_of p n j + hit s j) (reads_of p (suc n)) (p.points + 1) offsets' list' filled q n (omega (arith, in_q)) one_more all_few j x (omega arith) (rw offsets_is (rw list_is h))

      placed_second : IsPlaced (reads_of p p.edges) (set offsets' q (get_or offsets' q 0 - 1)) (set list' (get_or offsets' q 0 - 1) n) q n
      placed_second = IsPlaced-put (reads_of p p.edges) (λ j. reads_of p n j + hit s j) (reads_of p (suc n)) (p.points + 1) offsets' list' filled q n (omega (arith, in_q)) one_more all_few

      also_second : (e r : ℕ) → e < suc n → p.also e ≡ Some r → IsPlaced (reads_of p p.edges) (set offsets' q (get_or offsets' q 0 - 1)) (set list' (get_or offsets' q 0 - 1) n) r e
      also_second e r l h =
          ⊎_elim (λ (same : e ≡ n). let a : p.also n ≡ Some r = subst (λ (i : ℕ). p.also i ≡ Some r) same h in let at_q : q ≡ r = cc in subst (λ (i : ℕ). IsPlaced (reads_of p p.edges) (set offsets' q (get_or offsets' q 0 - 1)) (set list' (get_or offsets' q 0 - 1) n) r i) (sym same) (subst (λ (k : ℕ). IsPlaced (reads_of p p.edges) (set offsets' q (get_or offsets' q 0 - 1)) (set list' (get_or offsets' q 0 - 1) n) k n) at_q placed_second)) (λ (o : e ≢ n). kept_second r e (law.also e r (omega arith) h) (kept_first r e (law.also e r (omega arith) h) (was.also e r (omega arith) h))) (cases_eq e n)

      within_second : All (λ e. e < p.edges) (set list' (get_or offsets' q 0 - 1) n)
      within_second = All-set (λ e. e < p.edges) list' (get_or offsets' q 0 - 1) n in_n (rw list_is within_first)

      pub ArePlaced-two : ArePlaced p (n + 1) (set offsets' q (get_or offsets' q 0 - 1)) (set list' (get_or offsets' q 0 - 1) n)
      ArePlaced-two =
          rw add-one (record {
            filled = filled_second;
            source = λ e l. kept_second _ e (law.source e (omega arith)) (source_first e l);
            also = also_second;
            within = within_second;
          })

  -- what is counted are the reads
  counts_total : (counts : List ℕ) → AreCounts p p.edges counts → (n : ℕ) → p.points ≤ n → n ≤ p.points + 1 → sum_below (λ j. get_or counts j 0) n ≡ reads p p.edges
  counts_total counts are n low high =
      sum_below-same (λ j. get_or counts j 0) (reads_of p p.edges) n (λ k l. are.at k (omega arith)) ∙ sum_below-reads_of p p.edges n (λ e l. let s = law.source e l in omega arith) (λ e q l h. let a = law.also e q l h in omega arith)

  pub counts_small : (counts : List ℕ) → AreCounts p p.edges counts → p.edges < 2 ^ 32 → (seen : List ℕ) → seen ≡ counts → sum_below (λ j. get_or seen j 0) (length seen) < 2 ^ 64
  counts_small counts are few seen same =
      let all : sum_below (λ j. get_or counts j 0) (length counts) ≡ reads p p.edges = counts_total counts are (length counts) (let c = are.count in omega arith) (let c = are.count in omega arith) in
      let most = reads_small p p.edges in
      rw same (omega arith)

  -- before any edge is put
  ArePlaced-none : (offsets list : List ℕ) → length offsets ≡ p.points + 1 → length list ≡ sum_below (reads_of p p.edges) (p.points + 1) → ((k : ℕ) → k < p.points + 1 → get_or offsets k 0 ≡ sum_below (reads_of p p.edges) (suc k)) → All (λ e. e < p.edges) list → ArePlaced p 0 offsets list
  ArePlaced-none offsets list count room ends within =
      record {
        filled = record { count = count; room = room; at = λ k l. let e = ends k l in omega arith };
        source = λ e l. absurd (omega arith);
        also = λ e q l h. absurd (omega arith);
        within = within;
      }

  -- the same of the sums of the counts, and a list of zeros
  pub ArePlaced-zeros : (counts : List ℕ) → AreCounts p p.edges counts → (seen : List ℕ) → seen ≡ counts → (offsets : List ℕ) → length offsets ≡ length seen → ((k : ℕ) → k < length seen → get_or offsets k 0 ≡ sum_below (λ j. get_or seen j 0) (k + 1)) → (i r : ℕ) → i ≡ p.points → r ≡ get_or offsets i r → (list : List ℕ) → list ≡ replicate r 0 → ArePlaced p 0 offsets list
  ArePlaced-zeros counts are seen same offsets count ends i r at read list zeros =
      let long : length seen ≡ length counts = ap (λ (xs : List ℕ). length xs) same in
      let counted = are.count in
      let end : (k : ℕ) → k < p.points + 1 → get_or offsets k 0 ≡ sum_below (reads_of p p.edges) (suc k) = λ k l. ends k (omega arith) ∙ (ap (λ (n : ℕ). sum_below (λ j. get_or seen j 0) n) (add-one k) ∙ sum_below-same (λ j. get_or seen j 0) (reads_of p p.edges) (suc k) (λ j m. ap (λ (xs : List ℕ). get_or xs j 0) same ∙ are.at j (omega arith))) in
      let last : r ≡ sum_below (reads_of p p.edges) (suc p.points) = read ∙ (get_or_default offsets i r 0 (omega arith) ∙ (ap (λ (j : ℕ). get_or offsets j 0) at ∙ end p.points (omega arith))) in
      let wide : length list ≡ r = ap (λ (xs : List ℕ). length xs) zeros ∙ length-replicate r 0 in
      let up : sum_below (reads_of p p.edges) (suc p.points) ≡ sum_below (reads_of p p.edges) (p.points + 1) = ap (λ (n : ℕ). sum_below (reads_of p p.edges) n) (sym (add-one p.points)) in
      let reads_are : sum_below (reads_of p p.edges) (suc p.points) ≡ reads p p.edges = sum_below-reads_of p p.edges (suc p.points) (λ e l. let s = law.source e l in omega arith) (λ e q l h. let a = law.also e q l h in omega arith) in
      let most = reads_small p p.edges in
      ArePlaced-none offsets list (omega arith) (omega arith) end (λ k d l. rw zeros (rw (get_or-replicate r k 0 d (omega arith)) (omega arith)))

  -- the table at last
  module _ (offsets list : List ℕ) (are : ArePlaced p p.edges offsets list) where
    begins_at : (k : ℕ) → k < p.points + 1 → get_or offsets k 0 ≡ sum_below (reads_of p p.edges) k
    begins_at k l = let a = are.filled.at k l in omega arith

    pub AreOffsets-placed : AreOffsets offsets list
    AreOffsets-placed =
        record {
          rising = λ k l. let c = are.filled.count in let a = begins_at k (omega arith) in let b = begins_at (suc k) (omega arith) in omega arith;
          within = λ k l. let c = are.filled.count in let a = begins_at k (omega arith) in let b = sum_below-le (reads_of p p.edges) k (p.points + 1) (omega arith) in let r = are.filled.room in omega arith;
        }

    -- a row of the full table
    row_at : (k : ℕ) → k < p.points → readers_of (rows_of offsets list) k ≡ slice_range list (get_or offsets k 0) (get_or offsets (suc k) 0)
    row_at k l = rows_of-at offsets list k (let c = are.filled.count in omega arith)

    in_row : (k e : ℕ) → k < p.points → IsPlaced (reads_of p p.edges) offsets list k e → Contains (readers_of (rows_of offsets list) k) e
    in_row k e l h =
        let begin : get_or offsets k 0 ≤ h.0 = h.1 in
        let end : h.0 < get_or offsets (suc k) 0 = let b = begins_at (suc k) (omega arith) in let i = h.2 in omega arith in
        let wide : length (slice_range list (get_or offsets k 0) (get_or offsets (suc k) 0)) ≡ get_or offsets (suc k) 0 - get_or offsets k 0 = length-between list (get_or offsets k 0) (get_or offsets (suc k) 0) (AreOffsets-placed.within (suc k) (let c = are.filled.count in omega arith)) in
        let inside : h.0 - get_or offsets k 0 < length (slice_range list (get_or offsets k 0) (get_or offsets (suc k) 0)) = omega arith in
        let back : get_or offsets k 0 + (h.0 - get_or offsets k 0) ≡ h.0 = omega arith in
        let read : get_or (slice_range list (get_or offsets k 0) (get_or offsets (suc k) 0)) (h.0 - get_or offsets k 0) e ≡ get_or list h.0 e = get_or-between list (get_or offsets k 0) (get_or offsets (suc k) 0) (h.0 - get_or offsets k 0) e (omega arith) ∙ ap (λ (i : ℕ). get_or list i e) back in
        let in_list : h.0 < length list = let w = AreOffsets-placed.within (suc k) (let c = are.filled.count in omega arith) in omega arith in
        subst (λ (row : List ℕ). Contains row e) (sym (row_at k l)) (h.0 - get_or offsets k 0, inside, read ∙ (get_or_default list h.0 e 0 in_list ∙ h.3))

    placed_within : (k e : ℕ) → Contains (readers_of (rows_of offsets list) k) e → e < p.edges
    placed_within k e h =
        ⊎_elim (λ (l : k < p.points). All-contains (λ x. x < p.edges) (slice_range list (get_or offsets k 0) (get_or offsets (suc k) 0)) e (All-take (λ x. x < p.edges) (get_or offsets (suc k) 0 - get_or offsets k 0) _ (All-drop (λ x. x < p.edges) (get_or offsets k 0) list are.within)) (subst (λ (row : List ℕ). Contains row e) (row_at k l) h)) (λ (m : p.points ≤ k). let none : readers_of (rows_of offsets list) k ≡ [] = get_or_past (rows_of offsets list) k [] (let c = are.filled.count in let n = rows_of-length offsets list in omega arith) in let l = (subst (λ (row : List ℕ). Contains row e) none h).1 in absurd (omega arith)) (cases_lt k p.points)

    pub AreReaders-placed : AreReaders p p.edges (rows_of offsets list)
    AreReaders-placed =
        record {
          count = let c = are.filled.count in let n = rows_of-length offsets list in omega arith;
          source = λ e l. in_row _ e (law.source e l) (are.source e l);
          also = λ e q l h. in_row q e (law.also e q l h) (are.also e q l h);
          within = placed_within;
          total = let sums = rows_of-total offsets list p.points (let c = are.filled.count in omega arith) AreOffsets-placed in let first = begins_at 0 (omega arith) in let last = begins_at p.points (omega arith) in let all_reads = sum_below-reads_of p p.edges p.points law.source law.also in omega arith;
        }

-- a row of the table, as the code reads it
row_is : (rows : List (List ℕ)) (i k : ℕ) (row : List ℕ) → slice_get rows i ≡ Some row → i ≡ k → readers_of rows k ≡ row
row_is rows i k row read at =
    ap (λ (j : ℕ). readers_of rows j) (sym at) ∙ get_or_from_slice_get rows i row [] read

-- a row has edges alone
pub row_within : {Fact : Type 0} (p : Problem Fact) (n m : ℕ) (rows : List (List ℕ)) (i : ℕ) (row : List ℕ) → AreReaders p n rows → m ≡ n → slice_get rows i ≡ Some row → All (λ e. e < m) row
row_within p n m rows i row readers same read k d l =
    let in_row : Contains (readers_of rows i) (get_or row k d) = subst (λ (xs : List ℕ). Contains xs (get_or row k d)) (sym (row_is rows i i row read refl)) (Contains-get_or row k d l) in
    let within = readers.within i (get_or row k d) in_row in
    omega arith

-- an agenda that grows by a row grows by the readers of its point
pub row_grows : (before after : Waiting) (rows : List (List ℕ)) (i k : ℕ) (row : List ℕ) → Grows before after (length row) → slice_get rows i ≡ Some row → i ≡ k → Grows before after (length (readers_of rows k))
row_grows before after rows i k row grows read at =
    subst (λ (xs : List ℕ). Grows before after (length xs)) (sym (row_is rows i k row read at)) grows

-- where each edge of a point's row waits, each that reads the point's fact does
pub all_wait : {Fact : Type 0} (p : Problem Fact) (rows : List (List ℕ)) (i k : ℕ) (row waiting : List ℕ) → AreReaders p p.edges rows → slice_get rows i ≡ Some row → i ≡ k → All (Contains waiting) row → AllWait p k waiting
all_wait p rows i k row waiting readers read at listed =
    record {
      source = λ e l is. All-contains (Contains waiting) row e listed (subst (λ (xs : List ℕ). Contains xs e) (row_is rows i k row read at) (subst (λ (j : ℕ). Contains (readers_of rows j) e) is (readers.source e l)));
      also = λ e l is. All-contains (Contains waiting) row e listed (subst (λ (xs : List ℕ). Contains xs e) (row_is rows i k row read at) (readers.also e k l is));
    }
