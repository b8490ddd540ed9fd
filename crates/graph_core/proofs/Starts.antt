-- where a depth first search begins
use Rattle.std.proofs.Common.{◌≡◌, ◌≢◌, ◌⊎◌, ℕ, ◌+◌, ◌<◌, ◌≤◌, not, cond, Option, Some, None, List, [], ◌∷◌, length, get_or, set, replicate, refl, sym, ◌∙◌, ap, inl, inr, subst, arith, get_or-set_same, get_or-set_other}
use Rattle.std.specs.Prelude.{is_some}
use Rattle.std.proofs.lemmas.Bool.{cases_eq, cases_lt}
use Rattle.std.proofs.lemmas.List.{length-set, get_or_past, get_or-replicate, length-replicate}
use Rattle.std.proofs.lemmas.List.Sums.{sum_by-set}
use Rattle.std.proofs.lemmas.List.Folds.{sum_by-replicate}
use Rattle.graph_core.specs.Search.{Found, node_at, last_at, number_of, IsNumbered, IsInTree}
use Rattle.graph_core.specs.Walk.{unfound, IsWalk}

-- the start: the root alone
abbrev pub root_alone : ℕ → ℕ → Found
root_alone n root =
    record {
      order = root ∷ [];
      parents = 0 ∷ [];
      lasts = n ∷ [];
      numbers = set (replicate n None) root (Some 0);
    }

module _ (g : List (List ℕ)) (n root : ℕ) (same : n ≡ length g) (fits : root < length g) where
  none_at : (v : ℕ) → (v < n) ⊎ (n ≤ v) → get_or (replicate {A = Option ℕ} n None) v None ≡ None
  none_at v (inl l) = get_or-replicate n v None None l
  none_at v (inr m) =
      let c = length-replicate {A = Option ℕ} n None in get_or_past (replicate n None) v None (omega arith)

  root_number : number_of (root_alone n root) root ≡ Some 0
  root_number =
      let c = length-replicate {A = Option ℕ} n None in
      get_or-set_same (replicate n None) root (Some 0) None (omega arith)

  alone_named : (v k : ℕ) → (v ≡ root) ⊎ (v ≢ root) → number_of (root_alone n root) v ≡ Some k → (v ≡ root) × (k ≡ 0)
  alone_named v k (inl e) h =
      let here : Some k ≡ Some 0 = sym h ∙ subst (λ (y : ℕ). number_of (root_alone n root) y ≡ Some 0) (sym e) root_number in
      (e, cc)
  alone_named v k (inr o) h =
      let no : None ≡ Some k = sym (none_at v (cases_lt v n)) ∙ (sym (get_or-set_other (replicate n None) root v (Some 0) None o) ∙ h) in
      absurd (cc)

  alone_named_at : (v k : ℕ) → (v ≡ root) × (k ≡ 0) → (k < 1) × (node_at (root_alone n root) k ≡ v)
  alone_named_at v k h =
      let e : k ≡ 0 = h.1 in
      (omega arith, subst (λ (j : ℕ). node_at (root_alone n root) j ≡ v) (sym e) (sym h.0))

  alone_numbered : IsNumbered g (root_alone n root)
  alone_numbered =
      record {
        some = omega arith;
        parent_count = refl;
        last_count = refl;
        number_count = length-set (replicate n None) root (Some 0) ∙ (length-replicate n None ∙ same);
        nodes = λ k l. let e : k ≡ 0 = omega arith in subst (λ (j : ℕ). node_at (root_alone n root) j < length g) (sym e) fits;
        numbered = λ k l. let e : k ≡ 0 = omega arith in subst (λ (j : ℕ). number_of (root_alone n root) (node_at (root_alone n root) j) ≡ Some j) (sym e) root_number;
        named = λ v k h. alone_named_at v k (alone_named v k (cases_eq v root) h);
      }

  alone_spare : 1 + unfound (root_alone n root) ≡ length g
  alone_spare =
      let c = length-replicate {A = Option ℕ} n None in
      let l : root < length (replicate {A = Option ℕ} n None) = omega arith in
      let change = sum_by-set (λ (o : Option ℕ). cond {A = ℕ} (not (is_some o)) 1 0) (replicate n None) root (Some 0) None l in
      let was : cond {A = ℕ} (not (is_some (get_or (replicate {A = Option ℕ} n None) root None))) 1 0 ≡ 1 = ap (λ (o : Option ℕ). cond {A = ℕ} (not (is_some o)) 1 0) (none_at root (cases_lt root n)) in
      let all = sum_by-replicate (λ (o : Option ℕ). cond {A = ℕ} (not (is_some o)) 1 0) n None in
      omega arith

  alone_tree : IsInTree g (root_alone n root) 0
  alone_tree =
      record {
        last = omega arith;
        earlier = λ o. absurd (omega arith);
        edge = λ o. absurd (omega arith);
        inside = λ o. absurd (omega arith);
        lower = λ s o h l. absurd (omega arith);
        around = λ m a b. absurd (omega arith);
      }

  no_looks : (v i : ℕ) → (v < n) ⊎ (n ≤ v) → i < get_or (replicate n 0) v 0 → ⊥
  no_looks v i (inl l) h =
      let e : get_or (replicate {A = ℕ} n 0) v 0 ≡ 0 = get_or-replicate n v 0 0 l in omega arith
  no_looks v i (inr m) h =
      let c = length-replicate {A = ℕ} n 0 in
      let e : get_or (replicate {A = ℕ} n 0) v 0 ≡ 0 = get_or_past (replicate n 0) v 0 (omega arith) in
      omega arith

  pub IsWalk-begin : IsWalk g (root_alone n root) (replicate n 0) 0
  IsWalk-begin =
      record {
        numbered = alone_numbered;
        spare = alone_spare;
        tree = λ k l. let e : k ≡ 0 = omega arith in subst (IsInTree g (root_alone n root)) (sym e) alone_tree;
        below = omega arith;
        waits = same;
        left = λ k l. let e : k ≡ 0 = omega arith in inl (subst (λ (j : ℕ). last_at (root_alone n root) j ≡ length g) (sym e) same);
        under = λ k l h. omega arith;
        next_count = length-replicate n 0 ∙ same;
        looked = λ v i l m. absurd (no_looks v i (cases_lt v n) l);
      }
