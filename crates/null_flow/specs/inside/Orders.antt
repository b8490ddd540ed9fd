-- Facts are made of facts, and what is made of a fact lies below what is made of one above it.
use Rattle.std.proofs.Common.{◌≡◌, ℕ, ◌+◌, ◌-◌, Bool, true, false, List, [], ◌∷◌, ◌++◌, length, map, take, drop, refl, ap, subst, ◌∙◌, arith}
use Rattle.std.proofs.lemmas.List.{length-take-le, length-append, length-replicate}
use Rattle.std.specs.Prelude.{replicate}
use Rattle.null_flow.specs.declared.edge.NullEdge.{NullEdge}
use Rattle.null_flow.specs.declared.edge.Way.{Way}
use Rattle.null_flow.specs.declared.edge.Way.TheVariants.{Behind, Enters, Caught}
use Rattle.null_flow.specs.declared.origins.Origin.{Origin}
use Rattle.null_flow.specs.declared.origins.Origin.TheVariants.{New, Local, Word, Number}
use Rattle.null_flow.specs.declared.origins.Stored.{Stored}
use Rattle.null_flow.specs.declared.fact.NullFact.{NullFact}
use Rattle.null_flow.specs.declared.fact.NullFact.TheVariants as facts
use Rattle.null_flow.specs.Facts.{fact_below, IsFactOf}
use Rattle.null_flow.specs.Origins.{pushes, stores}
use Rattle.null_flow.specs.Effects.{top_words, below_words, is_new, with_stored, slots_after, slots_handed, slots_caught, slots_along, fitted, fact_along}
use Rattle.null_flow.specs.inside.Pointwise.{Under, itself, Each, none, more, is_each, each_itself, each_length, each_append, each_take, each_drop, each_set, each_at}
use Rattle.null_flow.specs.inside.Lattice.{known_is}

pub fitted_length : (size : ℕ) (slots : List Bool) → length (fitted size slots) ≡ size
fitted_length size slots =
    let whole : length (slots ++ replicate size false) ≡ length slots + size = length-append slots (replicate size false) ∙ ap (λ k. length slots + k) (length-replicate size false) in
    length-take-le size (slots ++ replicate size false) (omega (arith, whole))

fitted_each : (size : ℕ) {xs ys : List Bool} → Each xs ys → Each (fitted size xs) (fitted size ys)
fitted_each size each = each_take size (each_append each (each_itself (replicate size false)))

top_each : (n : ℕ) {xs ys : List Bool} → Each xs ys → Each (top_words n xs) (top_words n ys)
top_each n {xs = xs} {ys = ys} each = subst (λ k. Each (drop (length xs - n) xs) (drop (k - n) ys)) (each_length each) (each_drop (length xs - n) each)

below_each : (n : ℕ) {xs ys : List Bool} → Each xs ys → Each (below_words n xs) (below_words n ys)
below_each n {xs = xs} {ys = ys} each = subst (λ k. Each (take (length xs - n) xs) (take (k - n) ys)) (each_length each) (each_take (length xs - n) each)

new_under : {xs ys us vs : List Bool} → Each xs ys → Each us vs → (o : Origin) → Under (is_new xs us o) (is_new ys vs o)
new_under locals words New = itself
new_under locals words (Local n) = each_at n locals
new_under locals words (Word n) = each_at n words
new_under locals words Number = itself

map_each : (f g : Origin → Bool) → ((o : Origin) → Under (f o) (g o)) → (os : List Origin) → Each (map f os) (map g os)
map_each f g under [] = none
map_each f g under (o ∷ os) = more (under o) (map_each f g under os)

stored_each : (f g : Origin → Bool) → ((o : Origin) → Under (f o) (g o)) → (list : List Stored) {xs ys : List Bool} → Each xs ys → Each (with_stored f list xs) (with_stored g list ys)
stored_each f g under [] each = each
stored_each f g under (s ∷ rest) each = stored_each f g under rest (each_set s.local (under s.origin) each)

after_each : (w : Way) (pops locals : ℕ) {xs ys : List Bool} → Each xs ys → Each (slots_along w pops locals xs) (slots_along w pops locals ys)
unfolding slots_after slots_handed slots_caught
after_each (Behind action) pops locals {xs = xs} {ys = ys} each =
    let front = each_take locals each in
    let stack = each_drop locals each in
    let under = new_under front (top_each pops stack) in
    let f = is_new (take locals xs) (top_words pops (drop locals xs)) in
    let g = is_new (take locals ys) (top_words pops (drop locals ys)) in
    each_append (each_append (stored_each f g under (stores action) front) (below_each pops stack)) (map_each f g under (pushes action))
after_each (Enters true) pops locals each = more itself (each_drop 1 (top_each pops (each_drop locals each)))
after_each (Enters false) pops locals each = top_each pops (each_drop locals each)
after_each Caught pops locals each = each_append (each_take locals each) (more itself none)

pub makes_facts : (edge : NullEdge) (size : ℕ) (a : NullFact) → IsFactOf size (fact_along edge size a)
makes_facts edge size facts.Unreached = tt
makes_facts edge size (facts.Known a) = fitted_length size (slots_along edge.way edge.pops edge.locals a)

pub keeps_order :
    (edge : NullEdge) (before size : ℕ) (a b : NullFact) → IsFactOf before a → IsFactOf before b
    → fact_below a b ≡ true → fact_below (fact_along edge size a) (fact_along edge size b) ≡ true
keeps_order edge before size facts.Unreached b p q h = refl
keeps_order edge before size (facts.Known a) facts.Unreached p q h = absurd cc
keeps_order edge before size (facts.Known a) (facts.Known b) p q h =
    is_each (fitted_each size (after_each edge.way edge.pops edge.locals (known_is before a b p q h)))
