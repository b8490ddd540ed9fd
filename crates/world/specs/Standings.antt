-- What holds of a class for the calls of a method through a class.
use Rattle.std.specs.Prelude.{◌≡◌, ℕ, ◌<◌, Bool, true, false, ◌||◌, List, ◌∷◌, length, Option, None, Result, Err, is_some, nat_eq, if◌then◌else◌, slice_index_or}
use Rattle.std.specs.Option.{option_or, ok_or}
use Rattle.std.specs.List.{list_any}
use Rattle.world.specs.declared.member.MemberId.{MemberId}
use Rattle.world.specs.declared.fault.ResolveFault.{ResolveFault}
use Rattle.world.specs.declared.fault.ResolveFault.TheVariants.{MissingMember, Ambiguous}
use Rattle.world.specs.declared.access.MethodKind.{MethodKind}
use Rattle.world.specs.declared.access.MethodKind.TheVariants as kinds
use Rattle.world.specs.declared.standing.Spread.{Spread}
use Rattle.world.specs.declared.standing.Spread.TheVariants.{Empty, One, Several}
use Rattle.world.specs.declared.standing.Among.{Among}
use Rattle.world.specs.declared.standing.Chain.{Chain}
use Rattle.world.specs.declared.standing.Standing.{Standing}
use Rattle.class_hierarchy.specs.World.{World, line, above, ancestors}
use Rattle.class_hierarchy.specs.Building.{supers}
use Rattle.world.specs.Resolution.{first_of, method_in}
use Rattle.world.specs.Selection.{method_of, same_package}

-- ---- classes that pass a test

-- the class is one of these, and passes
abbrev pub Passes : (ℕ → Bool) → List ℕ → ℕ → Type 0
Passes p cs d = (list_any (nat_eq d) cs ≡ true) × (p d ≡ true)

-- none of these passes, or one that all others that do are like, or two that aren't alike
abbrev pub IsSpread : (ℕ → Bool) → (ℕ → ℕ → Bool) → List ℕ → Spread → Type 0
IsSpread p alike cs Empty = (d : ℕ) → ¬ Passes p cs d
IsSpread p alike cs (One d) = Passes p cs d × ((e : ℕ) → Passes p cs e → alike d e ≡ true)
IsSpread p alike cs Several = (d : ℕ) × (e : ℕ) × Passes p cs d × Passes p cs e × (alike d e ≡ false)

-- a class alone
abbrev pub own : Bool → ℕ → Spread
own passes d = if passes then One d else Empty

-- the classes of two lists
abbrev pub joined : (ℕ → ℕ → Bool) → Spread → Spread → Spread
joined alike Empty b = b
joined alike Several b = Several
joined alike (One d) Empty = One d
joined alike (One d) (One e) = if alike d e then One d else Several
joined alike (One d) Several = Several

-- two aren't alike
abbrev pub is_several : Spread → Bool
is_several Empty = false
is_several (One d) = false
is_several Several = true

-- ---- what there is among classes

-- the class has a method of the name and the descriptor of m, of this kind
abbrev pub declares : World → MemberId → MethodKind → ℕ → Bool
declares w m kind d = is_some (method_in w (method_of w m).name (method_of w m).desc kind d)

-- among these is the class c, the class of m, and so many have a default method
pub record IsAmong (w : World) (c : ℕ) (m : MemberId) (cs : List ℕ) (among : Among) : Type 0 where
  pub named : among.is_named ≡ list_any (nat_eq c) cs
  pub declaring : among.is_declaring ≡ list_any (nat_eq m.class) cs
  pub defaults : IsSpread (declares w m kinds.Default) nat_eq cs among.defaults

abbrev pub joined_among : Among → Among → Among
joined_among a b = record {
  is_named = a.is_named || b.is_named;
  is_declaring = a.is_declaring || b.is_declaring;
  defaults = joined nat_eq a.defaults b.defaults;
}

-- the first inherited method of these, whether one has the method for its package alone, and in how many packages
-- those stand that have it
pub record IsChain (w : World) (m : MemberId) (cs : List ℕ) (chain : Chain) : Type 0 where
  pub inherited : chain.inherited ≡ first_of (method_in w (method_of w m).name (method_of w m).desc kinds.Inherited) cs
  pub packaged : chain.is_packaged ≡ list_any (declares w m kinds.Package) cs
  pub packages : IsSpread (declares w m kinds.Any) (same_package w) cs chain.packages

abbrev pub joined_chain : World → Chain → Chain → Chain
joined_chain w a b = record {
  inherited = option_or a.inherited b.inherited;
  is_packaged = a.is_packaged || b.is_packaged;
  packages = joined (same_package w) a.packages b.packages;
}

-- ---- of a class

-- what holds of the class r, where m is called through the class c
pub record Stands (w : World) (c : ℕ) (m : MemberId) (r : ℕ) (standing : Standing) : Type 0 where
  pub near : IsAmong w c m (r ∷ above w r) standing.near
  pub all : IsAmong w c m (ancestors w r) standing.all
  pub chain : IsChain w m (line w r) standing.chain

-- before anything is known
abbrev pub no_among : Among
no_among = record { is_named = false; is_declaring = false; defaults = Empty }

abbrev pub blank : Standing
blank = record { near = no_among; all = no_among; chain = record { inherited = None; is_packaged = false; packages = Empty } }

-- what is kept of the class with this number
abbrev pub standing_at : List Standing → ℕ → Standing
standing_at standings r = slice_index_or standings r blank

-- it holds of all that the class r names
abbrev pub HasSupersStand : World → ℕ → MemberId → List Standing → ℕ → Type 0
HasSupersStand w c m standings r = (d : ℕ) → list_any (nat_eq d) (supers w r) ≡ true → Stands w c m d (standing_at standings d)

-- it holds of each class
pub record AreStandings (w : World) (c : ℕ) (m : MemberId) (standings : List Standing) : Type 0 where
  pub count : length standings ≡ length w
  pub each : (r : ℕ) → r < length w → Stands w c m r (standing_at standings r)

-- the only default method
abbrev pub default_by : Spread → (ℕ → Option MemberId) → Result MemberId ResolveFault
default_by Empty answer = Err MissingMember
default_by (One d) answer = ok_or (answer d) MissingMember
default_by Several answer = Err Ambiguous
