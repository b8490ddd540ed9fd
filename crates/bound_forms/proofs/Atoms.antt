-- Where an atom is put.
use Rattle.std.proofs.Common.{ℕ, zero, suc, ◌≡◌, ◌<◌, arith, length, get_or, List, [], ◌∷◌, ◌++◌, take, drop, map, refl, sym, ◌∙◌, ap}
use Rattle.std.specs.Global.{Vec}
use Rattle.std.specs.Ordering.{nat_cmp}
use Rattle.std.specs.Cmp.Lexicographic.{slice_cmp}
use Rattle.std.specs.declared.cmp.Ordering.{Ordering}
use Rattle.std.specs.declared.cmp.Ordering.TheVariants.{Less, Equal, Greater}
use Rattle.std.specs.List.{insert, take-map, drop-map}
use Rattle.std.proofs.lemmas.List.{map-append, length-map}
use Rattle.bound_terms.specs.declared.bound.Bound.{Bound}
use Rattle.bound_terms.specs.Bounds.{term_of}
use Rattle.bound_terms.specs.Terms.{Term}
use Rattle.bound_forms.specs.Monomials.{Monomial, atom_key, put_atom_by, put_atom}
use Rattle.bound_forms.specs.inside.Entries.{AreKeys}
use Rattle.bound_forms.specs.inside.Places.{place_by, key_place}

placed_by : (o : Ordering) (a b : Term) (bs rest : List Term) (k : ℕ) → rest ≡ take k bs ++ a ∷ drop k bs → put_atom_by o a b bs rest ≡ take (place_by o k) (b ∷ bs) ++ a ∷ drop (place_by o k) (b ∷ bs)
placed_by Less a b bs rest k is = refl
placed_by Equal a b bs rest k is = refl
placed_by Greater a b bs rest k is = ap (λ r. b ∷ r) is

placed : (a : Term) (bs : List Term) → put_atom a bs ≡ take (key_place (atom_key a) (map atom_key bs)) bs ++ a ∷ drop (key_place (atom_key a) (map atom_key bs)) bs
placed a [] = refl
placed a (b ∷ bs) = placed_by (slice_cmp nat_cmp (atom_key a) (atom_key b)) a b bs (put_atom a bs) (key_place (atom_key a) (map atom_key bs)) (placed a bs)

inserted_as : {X Y : Type 0} (f : X → Y) (xs : List X) (i : ℕ) (x : X) → map f (insert xs i x) ≡ take i (map f xs) ++ f x ∷ drop i (map f xs)
inserted_as f xs i x = map-append f (take i xs) (x ∷ drop i xs) ∙ rw (take-map f i xs, drop-map f i xs) refl

-- an atom's key is put where the atom is
pub keys_inserted : (keys : List (Vec ℕ)) (atoms : List Bound) (i : ℕ) (k : Vec ℕ) (a : Bound) → AreKeys keys atoms → k.items ≡ atom_key (term_of a) → AreKeys (insert keys i k) (insert atoms i a)
keys_inserted keys atoms i k a are is =
    inserted_as (λ (x : Vec ℕ). x.items) keys i k
    ∙ ap (λ ks. take i ks ++ k.items ∷ drop i ks) are
    ∙ ap (λ x. take i (map atom_key (map term_of atoms)) ++ x ∷ drop i (map atom_key (map term_of atoms))) is
    ∙ again (map term_of atoms) (term_of a)
    ∙ ap (map atom_key) (sym (inserted_as term_of atoms i a))
  where
    again : (bs : List Term) (b : Term) → take i (map atom_key bs) ++ atom_key b ∷ drop i (map atom_key bs) ≡ map atom_key (take i bs ++ b ∷ drop i bs)
    again bs b = sym (map-append atom_key (take i bs) (b ∷ drop i bs) ∙ rw (take-map atom_key i bs, drop-map atom_key i bs) refl)

-- and that is its place
pub atom_inserted : (keys : List (Vec ℕ)) (atoms : List Bound) (i : ℕ) (key : List ℕ) (a : Bound) → AreKeys keys atoms → key ≡ atom_key (term_of a) → i ≡ key_place key (map (λ (x : Vec ℕ). x.items) keys) → map term_of (insert atoms i a) ≡ put_atom (term_of a) (map term_of atoms)
atom_inserted keys atoms i key a are is at =
    let bs = map term_of atoms in
    let place : i ≡ key_place (atom_key (term_of a)) (map atom_key bs) = at ∙ ap (λ k. key_place k (map (λ (x : Vec ℕ). x.items) keys)) is ∙ ap (key_place (atom_key (term_of a))) are in
    inserted_as term_of atoms i a ∙ ap (λ j. take j bs ++ term_of a ∷ drop j bs) place ∙ sym (placed (term_of a) bs)

-- the same of what the program makes
pub keys_with : (keys keys' : List (Vec ℕ)) (atoms atoms' : List Bound) (i : ℕ) (k : Vec ℕ) (a : Bound) (key : List ℕ) (t : Term) → AreKeys keys atoms → keys' ≡ insert keys i k → atoms' ≡ insert atoms i a → k.items ≡ key → key ≡ atom_key t → term_of a ≡ t → AreKeys keys' atoms'
keys_with keys keys' atoms atoms' i k a key t are e f is_key is_atom is_term =
    ap (map (λ (x : Vec ℕ). x.items)) e ∙ keys_inserted keys atoms i k a are (is_key ∙ is_atom ∙ ap atom_key (sym is_term)) ∙ ap (λ bs. map atom_key (map term_of bs)) (sym f)

pub atoms_with : (keys : List (Vec ℕ)) (atoms atoms' : List Bound) (i : ℕ) (a : Bound) (key : List ℕ) (t : Term) → AreKeys keys atoms → atoms' ≡ insert atoms i a → i ≡ key_place key (map (λ (x : Vec ℕ). x.items) keys) → key ≡ atom_key t → term_of a ≡ t → map term_of atoms' ≡ put_atom t (map term_of atoms)
atoms_with keys atoms atoms' i a key t are f at is_atom is_term =
    ap (map term_of) f ∙ atom_inserted keys atoms i key a are (is_atom ∙ ap atom_key (sym is_term)) at ∙ ap (λ u. put_atom u (map term_of atoms)) is_term

-- a list of atoms is as long as that of its keys
pub as_many : (keys : List (Vec ℕ)) (atoms : List Bound) → AreKeys keys atoms → length keys ≡ length atoms
as_many keys atoms are = sym (length-map keys (λ (x : Vec ℕ). x.items)) ∙ ap length are ∙ length-map (map term_of atoms) atom_key ∙ length-map atoms term_of

-- each key is that of the atom in its place
pub key_at : (keys : List (Vec ℕ)) (atoms : List Bound) (i : ℕ) (k : Vec ℕ) (a : Bound) → AreKeys keys atoms → i < length keys → k ≡ get_or keys i k → a ≡ get_or atoms i a → k.items ≡ atom_key (term_of a)
key_at [] atoms i k a are h e f = absurd (omega (arith, h))
key_at (x ∷ keys) [] i k a are h e f = absurd (omega (arith, ap length are))
key_at (x ∷ keys) (b ∷ atoms) zero k a are h e f = ap (λ (y : Vec ℕ). y.items) e ∙ first_is are ∙ ap (λ c. atom_key (term_of c)) (sym f)
  where
    first_is : {ys zs : List (List ℕ)} {y z : List ℕ} → y ∷ ys ≡ z ∷ zs → y ≡ z
    first_is g = cc
key_at (x ∷ keys) (b ∷ atoms) (suc i) k a are h e f = key_at keys atoms i k a (rest_is are) (omega (arith, h)) e f
  where
    rest_is : {ys zs : List (List ℕ)} {y z : List ℕ} → y ∷ ys ≡ z ∷ zs → ys ≡ zs
    rest_is g = cc

abbrev pub scaled : ℕ → List Term → Monomial
scaled c xs = record { coefficient = c; atoms = xs }

pub made_of : (c d : ℕ) (xs ys : List Term) → c ≡ d → xs ≡ ys → scaled c xs ≡ scaled d ys
made_of c d xs ys e f = ap (λ n. scaled n xs) e ∙ ap (scaled d) f
