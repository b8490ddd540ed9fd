-- Rows of what stands above each class, name by name.
use Rattle.std.proofs.Common.{inl, inr, ◌≡◌, ℕ, ◌<◌, ◌≤◌, List, [], length, Option, None, arith, refl, sym, ◌∙◌}
use Rattle.std.proofs.lemmas.Grind.{common_steps}
use Rattle.std.proofs.lemmas.Bool.{cases_lt}
use Rattle.class_hierarchy.specs.World.{World, object_class, class_at, interfaces, superclass}
use Rattle.class_hierarchy.specs.Building.{supers}
use Rattle.class_hierarchy.specs.Tables.{super_at, row_at, AreSuperclasses, AreLinks}

-- past the end there is no class, and no row
pub none_past : (w : World) (c : ℕ) → length w ≤ c → interfaces w c ≡ []
unfolding interfaces
none_past w c h = let e : class_at w c ≡ object_class = grind (arith, common_steps) in rw e refl

row_past : (rows : List (List ℕ)) (c : ℕ) → length rows ≤ c → row_at rows c ≡ []
row_past rows c h = grind (arith, common_steps)

pub all_links : (w : World) (n : ℕ) (links : List (List ℕ)) → length w ≤ n → length links ≡ length w → ((c : ℕ) → c < n → row_at links c ≡ interfaces w c) → AreLinks w links
all_links w n links le e h = (
  e,
  λ c. elim (cases_lt c n) [
    | inl lt ↦ h c lt
    | inr past ↦ row_past links c (omega arith) ∙ sym (none_past w c (omega arith))
  ],
)

pub no_super_past : (w : World) (c : ℕ) → length w ≤ c → superclass w c ≡ None
unfolding superclass
no_super_past w c h = let e : class_at w c ≡ object_class = grind (arith, common_steps) in rw e refl

super_past : (supers : List (Option ℕ)) (c : ℕ) → length supers ≤ c → super_at supers c ≡ None
super_past supers c h = grind (arith, common_steps)

pub all_supers : (w : World) (n : ℕ) (supers : List (Option ℕ)) → length w ≤ n → length supers ≡ length w → ((c : ℕ) → c < n → super_at supers c ≡ superclass w c) → AreSuperclasses w supers
all_supers w n supers le e h = (
  e,
  λ c. elim (cases_lt c n) [
    | inl lt ↦ h c lt
    | inr past ↦ super_past supers c (omega arith) ∙ sym (no_super_past w c (omega arith))
  ],
)

pub no_supers_past : (w : World) (c : ℕ) → length w ≤ c → supers w c ≡ []
unfolding supers superclass
no_supers_past w c h =
    let e : class_at w c ≡ object_class = grind (arith, common_steps) in
    rw (none_past w c h, e) refl
