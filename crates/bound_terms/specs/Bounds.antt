-- A bound's term.
use Rattle.std.specs.Prelude.{List, map}
use Rattle.bound_terms.specs.declared.bound.Bound.{Bound}
use Rattle.bound_terms.specs.declared.bound.Bound.TheOpen.{Bound-F}
use Rattle.bound_terms.specs.declared.bound.Bound.TheOpen as open_bound
use Rattle.bound_terms.specs.declared.bound.Bound.TheFolds.{fold-Bound}
use Rattle.bound_terms.specs.Terms.{Term, Number, Floor, Total, Product, Greatest, Power, Geometric, Terms, terms}

-- one layer, with the term of each part in its place
abbrev pub term_step : Bound-F Term → Term
term_step (open_bound.Const n) = Number n
term_step (open_bound.Nat n) = Floor n
term_step (open_bound.Sum ts) = Total (terms ts.items)
term_step (open_bound.Prod ts) = Product (terms ts.items)
term_step (open_bound.Max ts) = Greatest (terms ts.items)
term_step (open_bound.Pow b n) = Power b n
term_step (open_bound.Geo b n) = Geometric b n

-- the term that a bound says
abbrev pub term_of : Bound → Term
term_of = fold-Bound Term term_step

-- the terms of several bounds
abbrev pub terms_of : List Bound → Terms
terms_of bs = terms (map term_of bs)
