-- Classes that lead back to themselves, by the components of the graph of what they name.
use Rattle.std.proofs.Common.{◌≡◌, ◌⊎◌, ◌↔◌, inl, inr, ℕ, zero, suc, ◌+◌, ◌<◌, ◌≤◌, true, false, List, [], ◌∷◌, ◌++◌, length, take, get_or, Some, None, arith, refl, sym, ap, subst, ◌∙◌, nat_eq, true≢false}
use Rattle.std.specs.Prelude.{replicate, slice_index_or}
use Rattle.std.specs.List.{list_any}
use Rattle.std.proofs.lemmas.List.{take_more, take_all, length-replicate}
use Rattle.std.proofs.lemmas.Bool.{or_left, eqb-true, eq-eqb, cases_lt}
use Rattle.common_laws.proofs.Numbers.{place_listed, one_listed}
use Rattle.common_laws.proofs.Tests.{any_in, any_has, any_left, any_right, any_either}
use Rattle.graph_core.specs.Graphs.{HasEdge, successors_of}
use Rattle.graph_core.specs.Paths.{Leads, Reaches}
use Rattle.graph_core.specs.Numbers.{AreComponents}
use Rattle.graph_core.proofs.Reach.{Reaches-itself, Reaches-before}
use Rattle.class_hierarchy.specs.World.{World}
use Rattle.class_hierarchy.specs.Building.{LeadsTo, IsCyclic, supers}
use Rattle.class_hierarchy.specs.Building.LeadsTo.{once, through}
use Rattle.class_hierarchy.specs.Ranks.{IsGraphBelow, number_in, has_peer, FindsPeer, AreRanks}
use Rattle.class_hierarchy.proofs.Rows.{no_supers_past}
use Rattle.class_hierarchy.proofs.Cycles.{supers_below, no_step}

-- ---- lists

-- ---- the graph

edge_of : (w : World) (g : List (List ℕ)) → IsGraphBelow w (length w) g → (c d : ℕ) → list_any (nat_eq d) (supers w c) ≡ true → HasEdge g c d
edge_of w g h c d e = elim (cases_lt c (length w)) [
  | inl lt ↦ (h.edges c d).1 (lt, e)
  | inr past ↦ absurd (no_step w c d d (no_supers_past w c (omega arith)) (once e))
]

leads_reach : (w : World) (g : List (List ℕ)) → IsGraphBelow w (length w) g → (c d : ℕ) → LeadsTo (supers w) c d → Reaches g c d
leads_reach w g h c d (once e) = Reaches-before g c d d (edge_of w g h c d e) (Reaches-itself g d)
leads_reach w g h c d (through {d = b} e more) = Reaches-before g c b d (edge_of w g h c b e) (leads_reach w g h b d more)

along : (w : World) (g : List (List ℕ)) → IsGraphBelow w (length w) g → (rest : List ℕ) (c a b : ℕ) → list_any (nat_eq a) (supers w c) ≡ true → Leads g a rest b → LeadsTo (supers w) c b
along w g h [] c a b e l = subst (λ x. LeadsTo (supers w) c x) l (once e)
along w g h (x ∷ rest) c a b e l = through e (along w g h rest a x b ((h.edges a x).0 l.0).1 l.1)

peer_by : (w : World) (g : List (List ℕ)) (numbers : List ℕ) → IsGraphBelow w (length w) g → AreComponents g numbers → (c b : ℕ) → c < length w → list_any (nat_eq b) (supers w c) ≡ true → Reaches g b c → has_peer g numbers c ≡ true
peer_by w g numbers h k c b lt e back =
    let edge = edge_of w g h c b e in
    let inside : b < length g = rw h.nodes (supers_below w c b e) in
    let here : c < length g = rw h.nodes lt in
    let same : number_in numbers b ≡ number_in numbers c = (k.together b c inside here).1 (back, Reaches-before g c b b edge (Reaches-itself g b)) in
    any_in (λ d. nat_eq (number_in numbers d) (number_in numbers c)) (successors_of g c) b edge (eq-eqb (number_in numbers b) (number_in numbers c) same)

pub cyclic_peer : (w : World) (g : List (List ℕ)) (numbers : List ℕ) → IsGraphBelow w (length w) g → AreComponents g numbers → (c : ℕ) → c < length w → IsCyclic w c → has_peer g numbers c ≡ true
cyclic_peer w g numbers h k c lt (once e) = peer_by w g numbers h k c c lt e (Reaches-itself g c)
cyclic_peer w g numbers h k c lt (through {d = b} e more) = peer_by w g numbers h k c b lt e (leads_reach w g h b c more)

pub peer_cyclic : (w : World) (g : List (List ℕ)) (numbers : List ℕ) → IsGraphBelow w (length w) g → AreComponents g numbers → (c : ℕ) → c < length w → has_peer g numbers c ≡ true → IsCyclic w c
peer_cyclic w g numbers h k c lt e =
    let peer = any_has (λ d. nat_eq (number_in numbers d) (number_in numbers c)) (successors_of g c) e in
    let step = ((h.edges c peer.0).0 peer.1).1 in
    let inside : peer.0 < length g = rw h.nodes (supers_below w c peer.0 step) in
    let here : c < length g = rw h.nodes lt in
    let back = (k.together peer.0 c inside here).0 (eqb-true (number_in numbers peer.0) (number_in numbers c) peer.2) in
    along w g h back.0.0 c peer.0 c step back.0.1.leads

-- ---- the first one

pub found_cyclic : (w : World) (g : List (List ℕ)) (numbers : List ℕ) (c : ℕ) → IsGraphBelow w (length w) g → AreComponents g numbers → FindsPeer g numbers (Some c) → (c < length w) × IsCyclic w c × ((d : ℕ) → d < c → ¬ IsCyclic w d)
found_cyclic w g numbers c h k f =
    let lt : c < length w = rw h.nodes at f.0 in
    (lt, peer_cyclic w g numbers h k c lt f.1, λ d less back. true≢false (sym (cyclic_peer w g numbers h k d (omega arith) back) ∙ f.2 d less))

pub none_cyclic : (w : World) (g : List (List ℕ)) (numbers : List ℕ) → IsGraphBelow w (length w) g → AreComponents g numbers → FindsPeer g numbers None → (c : ℕ) → ¬ IsCyclic w c
none_cyclic w g numbers h k f c back = elim (cases_lt c (length w)) [
  | inl lt ↦ true≢false (sym (cyclic_peer w g numbers h k c lt back) ∙ f c (rw h.nodes lt))
  | inr past ↦ no_step w c c c (no_supers_past w c (omega arith)) back
]

rises : (w : World) (g : List (List ℕ)) (numbers : List ℕ) → IsGraphBelow w (length w) g → AreComponents g numbers → FindsPeer g numbers None → (c d : ℕ) → c < length w → list_any (nat_eq d) (supers w c) ≡ true → number_in numbers d < number_in numbers c
rises w g numbers h k f c d lt e =
    let edge = edge_of w g h c d e in
    let here : c < length g = rw h.nodes lt in
    let le : number_in numbers d ≤ number_in numbers c = k.callees c d edge here in
    elim (cases_lt (number_in numbers d) (number_in numbers c)) [
      | inl less ↦ less
      | inr ge ↦
          let same : number_in numbers d ≡ number_in numbers c = omega (arith, le, ge) in
          absurd (true≢false (sym (any_in (λ x. nat_eq (number_in numbers x) (number_in numbers c)) (successors_of g c) d edge (eq-eqb (number_in numbers d) (number_in numbers c) same)) ∙ f c here))
    ]

pub ranked : (w : World) (g : List (List ℕ)) (numbers : List ℕ) → IsGraphBelow w (length w) g → AreComponents g numbers → FindsPeer g numbers None → AreRanks w numbers
ranked w g numbers h k f = record { count = k.count ∙ h.nodes; rise = rises w g numbers h k f }

-- ---- one class more, edge by edge

pub super_at : (w : World) (c : ℕ) (v : List ℕ) (k : ℕ) → v ≡ supers w c → k < length v → get_or v k 0 < length w
super_at w c v k e lt = supers_below w c (get_or v k 0) (subst (λ l. list_any (nat_eq (get_or v k 0)) l ≡ true) e (place_listed v k 0 lt))

snoc_any : (d x : ℕ) (xs : List ℕ) → list_any (nat_eq d) (xs ++ x ∷ []) ≡ true → (list_any (nat_eq d) xs ≡ true) ⊎ (d ≡ x)
snoc_any d x xs h = elim (any_either (nat_eq d) xs (x ∷ []) h) [
  | inl left ↦ inl left
  | inr right ↦ inr (one_listed d x right)
]

-- so many edges from the class were added to the graph
abbrev pub Adds : List (List ℕ) → ℕ → List ℕ → ℕ → List (List ℕ) → Type 0
Adds old class xs i new = (c d : ℕ) → HasEdge new c d ↔ (HasEdge old c d ⊎ ((c ≡ class) × (list_any (nat_eq d) (take i xs) ≡ true)))

pub adds_none : (g : List (List ℕ)) (class : ℕ) (xs : List ℕ) → Adds g class xs 0 g
adds_none g class xs c d = (λ e. inl e, λ e. elim e [ inl old ↦ old | inr new ↦ absurd (let never : list_any (nat_eq d) [] ≡ true = new.1 in cc) ])

pub adds_one : (old g new : List (List ℕ)) (class : ℕ) (xs : List ℕ) (i : ℕ) → i < length xs → Adds old class xs i g → ((c d : ℕ) → HasEdge new c d ↔ (HasEdge g c d ⊎ ((c ≡ class) × (d ≡ get_or xs i 0)))) → Adds old class xs (i + 1) new
adds_one old g new class xs i lt h k c d =
    let x = get_or xs i 0 in
    let more : take (i + 1) xs ≡ take i xs ++ get_or xs i 0 ∷ [] = take_more xs i 0 lt in (
      λ e. elim ((k c d).0 e) [
        | inl before ↦ elim ((h c d).0 before) [
          | inl first ↦ inl first
          | inr later ↦ inr (later.0, subst (λ l. list_any (nat_eq d) l ≡ true) (sym more) (any_left (nat_eq d) (take i xs) (x ∷ []) later.1))
        ]
        | inr now ↦ inr (now.0, subst (λ l. list_any (nat_eq d) l ≡ true) (sym more) (any_right (nat_eq d) (take i xs) (x ∷ []) (or_left (nat_eq d x) false (eq-eqb d x now.1))))
      ],
      λ e. elim e [
        | inl first ↦ (k c d).1 (inl ((h c d).1 (inl first)))
        | inr some ↦ elim (snoc_any d x (take i xs) (subst (λ l. list_any (nat_eq d) l ≡ true) more some.1)) [
          | inl later ↦ (k c d).1 (inl ((h c d).1 (inr (some.0, later))))
          | inr same ↦ (k c d).1 (inr (some.0, same))
        ]
      ],
    )

pub class_added : (w : World) (class : ℕ) (xs : List ℕ) (i : ℕ) (old new : List (List ℕ)) → xs ≡ supers w class → length xs ≤ i → length new ≡ length w → IsGraphBelow w class old → Adds old class xs i new → IsGraphBelow w (class + 1) new
class_added w class xs i old new e le nodes h k =
    let whole : take i xs ≡ supers w class = take_all i xs le ∙ e in
    record {
      nodes = nodes;
      edges = λ c d. (
        λ edge. elim ((k c d).0 edge) [
          | inl before ↦ let p = (h.edges c d).0 before in (omega (arith, p.0), p.1)
          | inr now ↦ (omega (arith, now.0), subst (λ a. list_any (nat_eq d) (supers w a) ≡ true) (sym now.0) (subst (λ l. list_any (nat_eq d) l ≡ true) whole now.1))
        ],
        λ p. elim (cases_lt c class) [
          | inl less ↦ (k c d).1 (inl ((h.edges c d).1 (less, p.1)))
          | inr ge ↦ let same : c ≡ class = omega (arith, p.0) in (k c d).1 (inr (same, subst (λ l. list_any (nat_eq d) l ≡ true) (sym whole) (subst (λ a. list_any (nat_eq d) (supers w a) ≡ true) same p.1)))
        ],
      );
    }

row_none : (n c : ℕ) → slice_index_or {A = List ℕ} (replicate n []) c [] ≡ []
row_none zero c = refl
row_none (suc n) zero = refl
row_none (suc n) (suc c) = row_none n c

pub no_edges : (w : World) (g : List (List ℕ)) (n : ℕ) → n ≡ length w → g ≡ replicate n [] → IsGraphBelow w 0 g
no_edges w g n e h = record {
  nodes = ap (λ l. length l) h ∙ length-replicate n [] ∙ e;
  edges = λ c d. (λ edge. absurd (let none : successors_of g c ≡ [] = ap (λ l. slice_index_or l c []) h ∙ row_none n c in let out : edge.0 < length (successors_of g c) = edge.1 in let zeros : length (successors_of g c) ≡ 0 = ap (λ l. length l) none in omega (arith, out, zeros)), λ p. absurd (omega (arith, p.0)));
}
