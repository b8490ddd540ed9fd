-- first paths, and what lies on them
use Rattle.std.proofs.Common.{◌≡◌, ◌⊎◌, ℕ, ◌<◌, ◌≤◌, List, [], ◌∷◌, ◌++◌, length, All, Contains, refl, sym, ◌∙◌, ap, inl, inr, ⊎_elim, subst, arith, length-append, append_assoc, get_or}
use Rattle.std.proofs.lemmas.Bool.{cases_order, cases_lt}
use Rattle.std.proofs.lemmas.List.{get_or_past}
use Rattle.std.proofs.lemmas.List.Elements.{All-head, All-tail, All-contains, All-from_get_or, Contains-get_or, Contains-append_left, Contains-append_right, Contains-append_cases}
use Rattle.graph_core.specs.Graphs.{HasEdge}
use Rattle.graph_core.specs.Paths.{Leads, IsWithoutRepeat, Reaches, IsNotAfter, IsFirstPath, LiesOnFirstPath}
use Rattle.graph_core.proofs.Lists.{Contains-cons_cases, Contains-tail, Contains-head, Contains-nil, cases_Contains}
use Rattle.graph_core.proofs.Orders.{first_path_one}
use Rattle.graph_core.proofs.Marks.{PathOn, path_before}

-- the first list comes strictly before the second
abbrev pub Before : List ℕ → List ℕ → Type 0
Before [] [] = ⊥
Before [] (y ∷ ys) = Unit {0}
Before (x ∷ xs) [] = ⊥
Before (x ∷ xs) (y ∷ ys) = (x < y) ⊎ ((x ≡ y) × Before xs ys)

pub cases_before : (xs ys : List ℕ) → IsNotAfter xs ys ⊎ Before ys xs
cases_before [] ys = inl tt
cases_before (x ∷ xs) [] = inr tt
cases_before (x ∷ xs) (y ∷ ys) = at (cases_order x y) (cases_before xs ys)
  where
    at : (x ≡ y) ⊎ ((x < y) ⊎ (y < x)) → IsNotAfter xs ys ⊎ Before ys xs → IsNotAfter (x ∷ xs) (y ∷ ys) ⊎ Before (y ∷ ys) (x ∷ xs)
    at (inl e) (inl h) = inl (inr (e, h))
    at (inl e) (inr h) = inr (inr (sym e, h))
    at (inr (inl l)) h = inl (inl l)
    at (inr (inr l)) h = inr (inl l)

pub not_before : (xs ys : List ℕ) → IsNotAfter xs ys → Before ys xs → ⊥
not_before [] [] h b = b
not_before [] (y ∷ ys) h b = b
not_before (x ∷ xs) [] h b = h
not_before (x ∷ xs) (y ∷ ys) (inl l) (inl m) = absurd (omega arith)
not_before (x ∷ xs) (y ∷ ys) (inl l) (inr m) = let e : y ≡ x = m.0 in absurd (omega arith)
not_before (x ∷ xs) (y ∷ ys) (inr l) (inl m) = let e : x ≡ y = l.0 in absurd (omega arith)
not_before (x ∷ xs) (y ∷ ys) (inr l) (inr m) = not_before xs ys l.1 m.1

pub before_not_after : (xs ys : List ℕ) → Before xs ys → IsNotAfter xs ys
before_not_after [] ys b = tt
before_not_after (x ∷ xs) [] b = b
before_not_after (x ∷ xs) (y ∷ ys) (inl l) = inl l
before_not_after (x ∷ xs) (y ∷ ys) (inr h) = inr (h.0, before_not_after xs ys h.1)

pub not_after_itself : (xs : List ℕ) → IsNotAfter xs xs
not_after_itself [] = tt
not_after_itself (x ∷ xs) = inr (refl, not_after_itself xs)

pub not_after_through : (xs ys zs : List ℕ) → IsNotAfter xs ys → IsNotAfter ys zs → IsNotAfter xs zs
not_after_through [] ys zs h k = tt
not_after_through (x ∷ xs) [] zs h k = absurd h
not_after_through (x ∷ xs) (y ∷ ys) [] h k = k
not_after_through (x ∷ xs) (y ∷ ys) (z ∷ zs) (inl l) (inl m) = inl (omega arith)
not_after_through (x ∷ xs) (y ∷ ys) (z ∷ zs) (inl l) (inr m) = let e : y ≡ z = m.0 in inl (omega arith)
not_after_through (x ∷ xs) (y ∷ ys) (z ∷ zs) (inr l) (inl m) = let e : x ≡ y = l.0 in inl (omega arith)
not_after_through (x ∷ xs) (y ∷ ys) (z ∷ zs) (inr l) (inr m) = inr (l.0 ∙ m.0, not_after_through xs ys zs l.1 m.1)

-- what stands between a list and its continuation continues it too
pub continued : (xs ys more : List ℕ) → IsNotAfter xs ys → IsNotAfter ys (xs ++ more) → (zs : List ℕ) × (ys ≡ xs ++ zs)
continued [] ys more h k = (ys, refl)
continued (x ∷ xs) [] more h k = absurd h
continued (x ∷ xs) (y ∷ ys) more (inl l) (inl m) = absurd (omega arith)
continued (x ∷ xs) (y ∷ ys) more (inl l) (inr m) = let e : y ≡ x = m.0 in absurd (omega arith)
continued (x ∷ xs) (y ∷ ys) more (inr l) (inl m) = let e : x ≡ y = l.0 in absurd (omega arith)
continued (x ∷ xs) (y ∷ ys) more (inr l) (inr m) =
    let c = continued xs ys more l.1 m.1 in
    let e : y ≡ x = m.0 in
    let f : ys ≡ xs ++ c.0 = c.1 in
    (c.0, cc)

pub not_longer : (xs more : List ℕ) → IsNotAfter (xs ++ more) xs → more ≡ []
not_longer [] [] h = refl
not_longer [] (y ∷ ys) h = absurd h
not_longer (x ∷ xs) more (inl l) = absurd (omega arith)
not_longer (x ∷ xs) more (inr h) = not_longer xs more h.1

pub all_of : (P : ℕ → Type 0) (xs : List ℕ) → ((x : ℕ) → Contains xs x → P x) → All P xs
all_of P xs h = All-from_get_or P xs 0 (λ i l. h (get_or xs i 0) (Contains-get_or xs i 0 l))

-- an edge leads from a node
pub edge_source : (g : List (List ℕ)) (a b : ℕ) → HasEdge g a b → a < length g
edge_source g a b e =
    ⊎_elim (λ (l : a < length g). l) (λ (m : length g ≤ a). absurd (let c = subst (λ (xs : List ℕ). Contains xs b) (get_or_past g a [] m) e in let l = c.1 in omega arith)) (cases_lt a (length g))

module _ (g : List (List ℕ)) where
  pub leads_on : (p q : List ℕ) (x h b : ℕ) → Leads g x p h → Leads g h q b → Leads g x (p ++ q) b
  leads_on [] q x h b e f = subst (λ (y : ℕ). Leads g y q b) (sym e) f
  leads_on (y ∷ p) q x h b e f = (e.0, leads_on p q y h b e.1 f)

  -- a way ends at its end
  pub end_in : (p : List ℕ) (x h : ℕ) → Leads g x p h → Contains (x ∷ p) h
  end_in [] x h e = subst (Contains (x ∷ [])) e (Contains-head x [])
  end_in (y ∷ p) x h e = Contains-tail x (y ∷ p) h (end_in p y h e.1)

  -- a way along nodes with a property has a path in it
  pub path_in : (P : ℕ → Type 0) (rest : List ℕ) (x b : ℕ) → Leads g x rest b → All P (x ∷ rest) → PathOn g P x b
  path_in P [] x b e all =
      record { rest = []; path = record { leads = e; no_repeat = (Contains-nil x, tt) }; all = all }
  path_in P (y ∷ rest) x b h all =
      let p = path_in P rest y b h.1 (All-tail P x (y ∷ rest) all) in
      path_before g P x y b p.rest h.0 (All-head P x (y ∷ rest) all) p.path p.all (cases_Contains (y ∷ p.rest) x)

  no_repeat_left : (p q : List ℕ) → IsWithoutRepeat (p ++ q) → IsWithoutRepeat p
  no_repeat_left [] q r = tt
  no_repeat_left (x ∷ p) q r = (λ c. r.0 (Contains-append_left p q x c), no_repeat_left p q r.1)

  pub no_repeat_push : (p : List ℕ) (z : ℕ) → IsWithoutRepeat p → (Contains p z → ⊥) → IsWithoutRepeat (p ++ z ∷ [])
  no_repeat_push [] z r n = (Contains-nil z, tt)
  no_repeat_push (x ∷ p) z r n =
      (λ c. ⊎_elim (λ (a : Contains p x). r.0 a) (λ (b : Contains (z ∷ []) x). ⊎_elim (λ (e : z ≡ x). n (subst (Contains (x ∷ p)) (sym e) (Contains-head x p))) (Contains-nil x) (Contains-cons_cases z [] x b)) (Contains-append_cases p (z ∷ []) x c), no_repeat_push p z r.1 (λ c. n (Contains-tail x p z c)))

  -- An earlier way to h gives an earlier way to what h leads to.
  record Earlier (x b : ℕ) (p q was : List ℕ) : Type 0 where
    other : List ℕ
    leads : Leads g x other b
    no_repeat : IsWithoutRepeat (x ∷ other)
    before : Before other was
    among : (z : ℕ) → Contains other z → Contains p z ⊎ Contains q z

  module _ (h b : ℕ) (q : List ℕ) (on : Leads g h q b) where
    -- the first node is the same, and from there on the way is earlier
    same_node : (x y z : ℕ) (ps zs : List ℕ) → HasEdge g x y → IsWithoutRepeat (x ∷ ((y ∷ ps) ++ q)) → IsWithoutRepeat (x ∷ z ∷ zs) → z ≡ y → Earlier y b zs q (ps ++ q) → Earlier x b (z ∷ zs) q ((y ∷ ps) ++ q)
    same_node x y z ps zs edge r s e rec =
        record {
          other = y ∷ rec.other;
          leads = (edge, rec.leads);
          no_repeat = (apart, rec.no_repeat);
          before = inr (refl, rec.before);
          among = λ w c. ⊎_elim (λ (t : y ≡ w). inl (subst (Contains (z ∷ zs)) (e ∙ t) (Contains-head z zs))) (λ (d : Contains rec.other w). ⊎_elim (λ (u : Contains zs w). inl (Contains-tail z zs w u)) (λ (u : Contains q w). inr u) (rec.among w d)) (Contains-cons_cases y rec.other w c);
        }
      where
        apart : Contains (y ∷ rec.other) x → ⊥
        apart c =
            ⊎_elim (λ (t : y ≡ x). r.0 (subst (Contains (y ∷ (ps ++ q))) t (Contains-head y (ps ++ q)))) (λ (d : Contains rec.other x). ⊎_elim (λ (u : Contains zs x). s.0 (Contains-tail z zs x u)) (λ (u : Contains q x). r.0 (Contains-append_right (y ∷ ps) q x u)) (rec.among x d)) (Contains-cons_cases y rec.other x c)

    earlier : (p new : List ℕ) (x : ℕ) → Leads g x p h → Leads g x new h → IsWithoutRepeat (x ∷ (p ++ q)) → IsWithoutRepeat (x ∷ new) → Before new p → Earlier x b new q (p ++ q)
    earlier [] [] x a e r s l = absurd l
    earlier [] (z ∷ zs) x a e r s l = absurd l
    earlier (y ∷ ps) [] x a e r s l =
        absurd (r.0 (Contains-append_left (y ∷ ps) q x (subst (Contains (y ∷ ps)) (sym e) (end_in ps y h a.1))))
    earlier (y ∷ ps) (z ∷ zs) x a e r s (inl l) =
        record {
          other = z ∷ path.rest;
          leads = (e.0, path.path.leads);
          no_repeat = (λ c. (All-contains on_way (z ∷ path.rest) x path.all c).0 refl, path.path.no_repeat);
          before = inl l;
          among = λ w c. (All-contains on_way (z ∷ path.rest) w path.all c).1;
        }
      where
        on_way : ℕ → Type 0
        on_way w = (w ≡ x → ⊥) × (Contains (z ∷ zs) w ⊎ Contains q w)

        from : (w : ℕ) → Contains (z ∷ zs) w ⊎ Contains q w → on_way w
        from w (inl c) = (λ e. s.0 (subst (Contains (z ∷ zs)) e c), inl c)
        from w (inr c) =
            (λ e. r.0 (Contains-append_right (y ∷ ps) q x (subst (Contains q) e c)), inr c)

        path : PathOn g on_way z b
        path =
            path_in on_way (zs ++ q) z b (leads_on zs q z h b e.1 on) (all_of on_way (z ∷ (zs ++ q)) (λ w c. from w (Contains-append_cases (z ∷ zs) q w c)))
    earlier (y ∷ ps) (z ∷ zs) x a e r s (inr l) =
        same_node x y z ps zs a.0 r s l.0 (earlier ps zs y a.1 (subst (λ (w : ℕ). Leads g w zs h) l.0 e.1) r.1 (subst (λ (w : ℕ). IsWithoutRepeat (w ∷ zs)) l.0 s.1) l.1)

  -- a first path is first to each of its nodes
  pub first_prefix : (root h b : ℕ) (p q : List ℕ) → Leads g root p h → Leads g h q b → IsFirstPath g root (p ++ q) b → IsFirstPath g root p h
  first_prefix root h b p q a on f =
      record {
        path = record { leads = a; no_repeat = no_repeat_left (root ∷ p) q f.path.no_repeat };
        first = λ other o. ⊎_elim (λ (n : IsNotAfter p other). n) (λ (l : Before other p). let e = earlier h b q on p other root a o.leads f.path.no_repeat o.no_repeat l in absurd (not_before (p ++ q) e.other (f.first e.other (record { leads = e.leads; no_repeat = e.no_repeat })) e.before)) (cases_before p other);
      }

  -- a way that is cut at h
  pub record Split (x : ℕ) (rest : List ℕ) (b h : ℕ) : Type 0 where
    pub before : List ℕ
    pub after : List ℕ
    pub is : rest ≡ before ++ after
    pub to : Leads g x before h
    pub from : Leads g h after b

  abbrev split_more : (x c : ℕ) (rest : List ℕ) (b h : ℕ) → HasEdge g x c → Split c rest b h → Split x (c ∷ rest) b h
  split_more x c rest b h e s =
      record { before = c ∷ s.before; after = s.after; is = ap (λ (xs : List ℕ). c ∷ xs) s.is; to = (e, s.to); from = s.from }

  split_here : (x : ℕ) (rest : List ℕ) (b h : ℕ) → Leads g x rest b → x ≡ h → Split x rest b h
  split_here x rest b h l e =
      record { before = []; after = rest; is = refl; to = e; from = subst (λ (y : ℕ). Leads g y rest b) e l }

  pub split_at : (rest : List ℕ) (x b h : ℕ) → Leads g x rest b → Contains (x ∷ rest) h → Split x rest b h
  split_at [] x b h l c =
      ⊎_elim (λ (e : x ≡ h). split_here x [] b h l e) (λ (d : Contains [] h). absurd (Contains-nil h d)) (Contains-cons_cases x [] h c)
  split_at (y ∷ rest) x b h l c =
      ⊎_elim (λ (e : x ≡ h). split_here x (y ∷ rest) b h l e) (λ (d : Contains (y ∷ rest) h). split_more x y rest b h l.0 (split_at rest y b h l.1 d)) (Contains-cons_cases x (y ∷ rest) h c)

  -- one of two nodes of a way stands on the way to the other
  abbrev pub OnSplit : ℕ → List ℕ → ℕ → ℕ → ℕ → Type 0
  OnSplit x rest b h k = (s : Split x rest b k) × Contains (x ∷ s.before) h

  on_more : (x c : ℕ) (rest : List ℕ) (b h k : ℕ) → HasEdge g x c → OnSplit c rest b h k → OnSplit x (c ∷ rest) b h k
  on_more x c rest b h k e s = (split_more x c rest b k e s.0, Contains-tail x (c ∷ s.0.before) h s.1)

  on_here : (x : ℕ) (rest : List ℕ) (b h k : ℕ) → Leads g x rest b → Contains (x ∷ rest) k → x ≡ h → OnSplit x rest b h k
  on_here x rest b h k l c e =
      let s = split_at rest x b k l c in (s, subst (Contains (x ∷ s.before)) e (Contains-head x s.before))

  order_cons : (x y : ℕ) (rest : List ℕ) (b h k : ℕ) → Leads g x (y ∷ rest) b → Contains (x ∷ y ∷ rest) h → Contains (x ∷ y ∷ rest) k → (x ≡ h) ⊎ Contains (y ∷ rest) h → (x ≡ k) ⊎ Contains (y ∷ rest) k → (Contains (y ∷ rest) h → Contains (y ∷ rest) k → OnSplit y rest b h k ⊎ OnSplit y rest b k h) → OnSplit x (y ∷ rest) b h k ⊎ OnSplit x (y ∷ rest) b k h
  order_cons x y rest b h k l c d (inl e) t rec = inl (on_here x (y ∷ rest) b h k l d e)
  order_cons x y rest b h k l c d (inr s) (inl e) rec = inr (on_here x (y ∷ rest) b k h l c e)
  order_cons x y rest b h k l c d (inr s) (inr t) rec =
      ⊎_elim (λ (o : OnSplit y rest b h k). inl (on_more x y rest b h k l.0 o)) (λ (o : OnSplit y rest b k h). inr (on_more x y rest b k h l.0 o)) (rec s t)

  pub split_order : (rest : List ℕ) (x b h k : ℕ) → Leads g x rest b → Contains (x ∷ rest) h → Contains (x ∷ rest) k → OnSplit x rest b h k ⊎ OnSplit x rest b k h
  split_order [] x b h k l c d =
      ⊎_elim (λ (e : x ≡ h). inl (on_here x [] b h k l d e)) (λ (n : Contains [] h). absurd (Contains-nil h n)) (Contains-cons_cases x [] h c)
  split_order (y ∷ rest) x b h k l c d =
      order_cons x y rest b h k l c d (Contains-cons_cases x (y ∷ rest) h c) (Contains-cons_cases x (y ∷ rest) k d) (split_order rest y b h k l.1)

  module _ (root : ℕ) where
    -- the first path to h, and how it goes on to b
    pub record Cut (rest : List ℕ) (h b : ℕ) : Type 0 where
      pub before : List ℕ
      pub after : List ℕ
      pub is : rest ≡ before ++ after
      pub first : IsFirstPath g root before h
      pub from : Leads g h after b

    abbrev cut_at : (rest : List ℕ) (h b : ℕ) → IsFirstPath g root rest b → Split root rest b h → Cut rest h b
    cut_at rest h b f s =
        record {
          before = s.before;
          after = s.after;
          is = s.is;
          first = first_prefix root h b s.before s.after s.to s.from (subst (λ (p : List ℕ). IsFirstPath g root p b) s.is f);
          from = s.from;
        }

    pub cut : (h b : ℕ) → (on : LiesOnFirstPath g root h b) → Cut on.0 h b
    cut h b on = cut_at on.0 h b on.1 (split_at on.0 root b h on.1.path.leads on.2)

    pub on_itself : (p : List ℕ) (h : ℕ) → IsFirstPath g root p h → LiesOnFirstPath g root h h
    on_itself p h f = (p, f, end_in p root h f.path.leads)

    -- h itself lies on a first path where it lies on one
    pub on_upper : (h b : ℕ) → LiesOnFirstPath g root h b → LiesOnFirstPath g root h h
    on_upper h b on = let s = cut h b on in on_itself s.before h s.first

    pub on_lower : (h b : ℕ) → LiesOnFirstPath g root h b → LiesOnFirstPath g root b b
    on_lower h b on = on_itself on.0 b on.1

    pub on_reaches : (h b : ℕ) → LiesOnFirstPath g root h b → Reaches g root h
    on_reaches h b on = let s = cut h b on in (s.before, s.first.path)

    pub on_through : (h k b : ℕ) → LiesOnFirstPath g root h k → LiesOnFirstPath g root k b → LiesOnFirstPath g root h b
    on_through h k b on up =
        let s = cut k b up in
        let same = first_path_one g root k on.0 s.before on.1 s.first in
        (up.0, up.1, subst (λ (p : List ℕ). Contains (root ∷ p) h) (sym s.is) (Contains-append_left (root ∷ s.before) s.after h (subst (λ (p : List ℕ). Contains (root ∷ p) h) same on.2)))

    -- of two nodes on one first path, one lies on the first path to the other
    pub on_chain : (h k b : ℕ) → LiesOnFirstPath g root h b → LiesOnFirstPath g root k b → LiesOnFirstPath g root h k ⊎ LiesOnFirstPath g root k h
    on_chain h k b on up =
        let same = first_path_one g root b up.0 on.0 up.1 on.1 in
        ⊎_elim (λ (o : OnSplit root on.0 b h k). let s = cut_at on.0 k b on.1 o.0 in inl (s.before, s.first, o.1)) (λ (o : OnSplit root on.0 b k h). let s = cut_at on.0 h b on.1 o.0 in inr (s.before, s.first, o.1)) (split_order on.0 root b h k on.1.path.leads on.2 (subst (λ (p : List ℕ). Contains (root ∷ p) k) same up.2))

    leads_nowhere : (q : List ℕ) (h k : ℕ) → Leads g h q k → length q ≡ 0 → h ≡ k
    leads_nowhere [] h k e l = e
    leads_nowhere (x ∷ q) h k e l = absurd (omega arith)

    pub on_both : (h k : ℕ) → LiesOnFirstPath g root h k → LiesOnFirstPath g root k h → h ≡ k
    on_both h k on up =
        let s = cut h k on in
        let t = cut k h up in
        let a : length s.before ≡ length up.0 = ap length (first_path_one g root h s.before up.0 s.first up.1) in
        let b : length t.before ≡ length on.0 = ap length (first_path_one g root k t.before on.0 t.first on.1) in
        let c : length on.0 ≡ length (s.before ++ s.after) = ap length s.is in
        let d : length up.0 ≡ length (t.before ++ t.after) = ap length t.is in
        leads_nowhere s.after h k s.from (omega (arith, length-append s.before s.after, length-append t.before t.after))

    -- what stands past h on a first path has h on its own
    pub on_past : (h b : ℕ) (p q : List ℕ) → IsFirstPath g root p h → Leads g h q b → IsFirstPath g root (p ++ q) b → (z : ℕ) → Contains (h ∷ q) z → LiesOnFirstPath g root h z
    on_past h b p q f l first z c =
        let s = split_at q h b z l c in
        let e : p ++ q ≡ (p ++ s.before) ++ s.after = ap (λ (xs : List ℕ). p ++ xs) s.is ∙ sym (append_assoc p s.before s.after) in
        let is = first_prefix root z b (p ++ s.before) s.after (leads_on p s.before root h z f.path.leads s.to) s.from (subst (λ (xs : List ℕ). IsFirstPath g root xs b) e first) in
        (p ++ s.before, is, Contains-append_left (root ∷ p) s.before h (end_in p root h f.path.leads))
