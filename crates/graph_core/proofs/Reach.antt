-- what reaches what
use Rattle.std.proofs.Common.{◌↔◌, ℕ, ◌<◌, List, [], ◌∷◌, length, refl, sym, subst, arith}
use Rattle.graph_core.specs.Graphs.{HasEdge, IsReverse, EndsAtNodes}
use Rattle.graph_core.specs.Paths.{Leads, Reaches}
use Rattle.graph_core.specs.Components.{AreTogether}
use Rattle.graph_core.proofs.Lists.{Contains-nil, cases_Contains}
use Rattle.graph_core.proofs.Marks.{path_before}

abbrev Any : ℕ → Type 0
Any x = Unit {0}

pub Reaches-itself : (g : List (List ℕ)) (a : ℕ) → Reaches g a a
Reaches-itself g a = ([], record { leads = refl; no_repeat = (Contains-nil a, tt) })

-- one edge more before
pub Reaches-before : (g : List (List ℕ)) (a b c : ℕ) → HasEdge g a b → Reaches g b c → Reaches g a c
Reaches-before g a b c edge h =
    let p = path_before g Any a b c h.0 edge tt h.1 (λ k d l. tt) (cases_Contains (b ∷ h.0) a) in (p.rest, p.path)

reaches_along : (g : List (List ℕ)) (rest : List ℕ) (a b c : ℕ) → Leads g a rest b → Reaches g b c → Reaches g a c
reaches_along g [] a b c e h = subst (λ (x : ℕ). Reaches g x c) (sym e) h
reaches_along g (x ∷ rest) a b c l h = Reaches-before g a x c l.0 (reaches_along g rest x b c l.1 h)

pub Reaches-through : (g : List (List ℕ)) (a b c : ℕ) → Reaches g a b → Reaches g b c → Reaches g a c
Reaches-through g a b c h k = reaches_along g h.0 a b c h.1.leads k

turned_along : (g back : List (List ℕ)) → ((x y : ℕ) → HasEdge back y x → HasEdge g x y) → (rest : List ℕ) (v w : ℕ) → Leads back v rest w → Reaches g w v
turned_along g back turned [] v w e = subst (λ (x : ℕ). Reaches g x v) e (Reaches-itself g v)
turned_along g back turned (x ∷ rest) v w l =
    Reaches-through g w x v (turned_along g back turned rest x w l.1) (Reaches-before g x v v (turned x v l.0) (Reaches-itself g v))

-- what reaches along the edges turned round
pub Reaches-turned : (g back : List (List ℕ)) → IsReverse g back → (v w : ℕ) → Reaches back v w ↔ Reaches g w v
Reaches-turned g back r v w =
    (λ h. turned_along g back (λ x y. (r.turned x y).0) h.0 v w h.1.leads, λ h. turned_along back g (λ x y. (r.turned y x).1) h.0 w v h.1.leads)

pub AreTogether-itself : (g : List (List ℕ)) (a : ℕ) → AreTogether g a a
AreTogether-itself g a = (Reaches-itself g a, Reaches-itself g a)

pub AreTogether-turned : (g : List (List ℕ)) (a b : ℕ) → AreTogether g a b → AreTogether g b a
AreTogether-turned g a b h = (h.1, h.0)

pub AreTogether-through : (g : List (List ℕ)) (a b c : ℕ) → AreTogether g a b → AreTogether g b c → AreTogether g a c
AreTogether-through g a b c h k = (Reaches-through g a b c h.0 k.0, Reaches-through g c b a k.1 h.1)

pub leads_within : (g : List (List ℕ)) → EndsAtNodes g → (rest : List ℕ) (c w : ℕ) → c < length g → Leads g c rest w → w < length g
leads_within g ends [] c w l e = omega arith
leads_within g ends (x ∷ rest) c w l h = leads_within g ends rest x w (ends c x h.0) h.1

-- what a node reaches is a node
pub Reaches-node : (g : List (List ℕ)) → EndsAtNodes g → (c w : ℕ) → c < length g → Reaches g c w → w < length g
Reaches-node g ends c w l h = leads_within g ends h.0 c w l h.1.leads
