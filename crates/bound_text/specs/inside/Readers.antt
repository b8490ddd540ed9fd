-- What a byte means where it stands.
use Rattle.std.specs.Prelude.{ℕ, ◌==◌, ◌&&◌, nat_le, false, Option, Some, None, List, [], ◌∷◌, map, reverse, if◌then◌else◌}
use Rattle.bound_terms.specs.Terms.{Floored, Term, Floor, Total, Greatest, Power, Geometric, terms}
use Rattle.bound_text.specs.declared.reader.Place.{Place}
use Rattle.bound_text.specs.declared.reader.Place.TheVariants.{Adding, Raising, Drawing, Dividing, Shutting}
use Rattle.bound_text.specs.declared.reader.Kind.{Kind}
use Rattle.bound_text.specs.declared.reader.Kind.TheVariants.{Nat, Geo, Pow}
use Rattle.bound_text.specs.declared.reader.Reader.{Reader}
use Rattle.bound_text.specs.inside.Runs.{is_digit, digit_onto, number_or, at_least_one}
use Rattle.bound_text.specs.inside.Expressions.{Drawn, nothing_drawn, settled, drawn_with}
use Rattle.bound_text.specs.inside.Sums.{OpenSum, open_of, nothing_open, with_digit, with_atom, with_monomial, with_operand}

-- what is read; the last letter; the kind of the atom, its base and its divisor; its expression; the sum that is read, and
-- those around it, the nearest first
pub record Stand : Type 0 where
  pub place : Place
  pub letter : ℕ
  pub kind : Kind
  pub base : ℕ
  pub divisor : Option ℕ
  pub drawn : Drawn
  pub sum : OpenSum
  pub around : List OpenSum

abbrev pub stand_of : Reader → Stand
stand_of r = record { place = r.place; letter = r.letter; kind = r.kind; base = r.base; divisor = r.divisor; drawn = r.drawn; sum = open_of r.sum; around = reverse (map open_of r.around.items) }

-- between atoms
abbrev pub between : OpenSum → List OpenSum → Stand
between sum around = record { place = Adding; letter = 0; kind = Nat; base = 0; divisor = None; drawn = nothing_drawn; sum = sum; around = around }

abbrev pub atom_by : Kind → ℕ → Floored → Term
atom_by Nat b n = Floor n
atom_by Geo b n = Geometric (at_least_one b) n
atom_by Pow b n = Power (at_least_one b) n

abbrev pub floored_of : Drawn → Option ℕ → Floored
floored_of d divisor = record { expression = record { coefficients = d.coefficients; constant = d.constant }; divisor = at_least_one (number_or 1 divisor) }

abbrev pub place_behind : Kind → Place
place_behind Nat = Adding
place_behind Geo = Shutting
place_behind Pow = Shutting

-- with the atom that is read
abbrev pub with_leaf : Stand → Stand
with_leaf s =
    record { place = place_behind s.kind; letter = 0; kind = Nat; base = 0; divisor = None; drawn = nothing_drawn; sum = with_atom (atom_by s.kind s.base (floored_of (settled false s.drawn) s.divisor)) s.sum; around = s.around }

-- with the maximum that ends
abbrev pub with_maximum : OpenSum → List OpenSum → Stand → Stand
with_maximum sum [] s = s
with_maximum sum (outer ∷ around) s = record { place = s.place; letter = s.letter; kind = s.kind; base = s.base; divisor = s.divisor; drawn = s.drawn; sum = with_atom (Greatest (terms (with_operand sum).operands)) outer; around = around }

abbrev pub with_sum : OpenSum → Stand → Stand
with_sum sum s = record { place = s.place; letter = s.letter; kind = s.kind; base = s.base; divisor = s.divisor; drawn = s.drawn; sum = sum; around = s.around }

abbrev pub with_letter : ℕ → Stand → Stand
with_letter letter s = record { place = s.place; letter = letter; kind = s.kind; base = s.base; divisor = s.divisor; drawn = s.drawn; sum = s.sum; around = s.around }

abbrev pub at_place : Place → Stand → Stand
at_place place s = record { place = place; letter = 0; kind = s.kind; base = s.base; divisor = s.divisor; drawn = s.drawn; sum = s.sum; around = s.around }

abbrev pub with_kind : Kind → Stand → Stand
with_kind kind s = record { place = Raising; letter = 0; kind = kind; base = 0; divisor = s.divisor; drawn = s.drawn; sum = s.sum; around = s.around }

abbrev pub with_divisor : ℕ → Stand → Stand
with_divisor divisor s = record { place = s.place; letter = 0; kind = s.kind; base = s.base; divisor = Some divisor; drawn = s.drawn; sum = s.sum; around = s.around }

abbrev pub with_base : ℕ → Stand → Stand
with_base base s = record { place = s.place; letter = s.letter; kind = s.kind; base = base; divisor = s.divisor; drawn = s.drawn; sum = s.sum; around = s.around }

abbrev pub with_drawn : Drawn → Stand → Stand
with_drawn drawn s = record { place = s.place; letter = s.letter; kind = s.kind; base = s.base; divisor = s.divisor; drawn = drawn; sum = s.sum; around = s.around }

-- with the first operand of a maximum
abbrev pub within : Stand → Stand
within s = record { place = s.place; letter = 0; kind = s.kind; base = s.base; divisor = s.divisor; drawn = s.drawn; sum = nothing_open; around = s.sum ∷ s.around }

-- a bracket opens what the letter in front of it says: na(t, ma(x, ge(o, po(w; a divided expression has none
abbrev pub opened : Stand → Stand
opened s =
    if s.letter == 116 then at_place Drawing s
    else if s.letter == 120 then within s
    else if s.letter == 111 then with_kind Geo s
    else if s.letter == 119 then with_kind Pow s
    else with_divisor 0 s

abbrev pub added : ℕ → Stand → Stand
added byte s =
    if is_digit byte then with_sum (with_digit byte s.sum) s
    else if byte == 43 then with_sum (with_monomial s.sum) s
    else if byte == 44 then with_sum (with_operand s.sum) s
    else if byte == 41 then with_maximum s.sum s.around s
    else if byte == 40 then opened s
    else if nat_le 97 byte && nat_le byte 122 then with_letter byte s
    else s

abbrev pub raised : ℕ → Stand → Stand
raised byte s =
    if is_digit byte then with_base (digit_onto s.base byte) s
    else if byte == 44 then at_place Adding s
    else s

abbrev pub expressed : Option ℕ → ℕ → Stand → Stand
expressed None byte s = if byte == 41 then with_leaf s else with_drawn (drawn_with byte s.drawn) s
expressed (Some k) byte s = if byte == 41 then at_place Dividing s else with_drawn (drawn_with byte s.drawn) s

abbrev pub divided : ℕ → Stand → Stand
divided byte s =
    if is_digit byte then with_divisor (digit_onto (number_or 0 s.divisor) byte) s
    else if byte == 41 then with_leaf s
    else s

abbrev pub shut : ℕ → Stand → Stand
shut byte s = if byte == 41 then at_place Adding s else s

abbrev pub step_by : Place → ℕ → Stand → Stand
step_by Adding byte s = added byte s
step_by Raising byte s = raised byte s
step_by Drawing byte s = expressed s.divisor byte s
step_by Dividing byte s = divided byte s
step_by Shutting byte s = shut byte s

abbrev pub step : ℕ → Stand → Stand
step byte s = step_by s.place byte s

-- the term of the whole text
abbrev pub read_term : Stand → Term
read_term s = Total (terms (with_monomial s.sum).monomials)
