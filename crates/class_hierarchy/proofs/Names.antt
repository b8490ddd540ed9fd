-- Numbers of classes by name.
use Rattle.std.proofs.Common.{◌≡◌, inl, inr, ℕ, suc, ◌+◌, ◌<◌, Bool, true, false, ◌&&◌, cond, List, [], ◌∷◌, ◌++◌, length, take, get_or, Option, Some, None, arith, refl, sym, ap, subst, ◌∙◌, is_none}
use Rattle.std.specs.Prelude.{is_some}
use Rattle.std.specs.Option.{option_or}
use Rattle.std.specs.List.{position}
use Rattle.std.specs.Str.{bytes_eq}
use Rattle.std.specs.Ordering.{nat_cmp, is_eq}
use Rattle.std.specs.Cmp.{eq_by_cmp_equiv}
use Rattle.std.specs.Cmp.Lexicographic.{slice_cmp}
use Rattle.std.specs.Map.{lookup, IsKeyTest, AreApart, KeepsOthers}
use Rattle.std.specs.BTreeMap as tree
use Rattle.std.specs.BTreeMap.{BTreeMap, is_at}
use Rattle.std.specs.Global.{Vec}
use Rattle.std.proofs.lemmas.Bool.{cases_Bool, cond-true, cond-false}
use Rattle.std.proofs.lemmas.Cmp.{nat_list_cmp_total, nat_list_eq_equiv}
use Rattle.std.proofs.lemmas.Grind.{common_steps}
use Rattle.std.proofs.lemmas.List.{take_more}
use Rattle.std.proofs.lemmas.Map.Text.{is_eq-slice_cmp}
use Rattle.std.proofs.lemmas.Slice.Eq.{bytes_eq-Decides}
use Rattle.class_reader.specs.declared.class.ClassRecord.{ClassRecord}
use Rattle.class_hierarchy.specs.World.{World, is_named, number_of}
use Rattle.class_hierarchy.specs.Names.{noted, NotesName, AreNumbers}

-- ---- what an insertion changes

apart : (bs cs ks : List ℕ) → bytes_eq bs cs ≡ false → bytes_eq bs ks ≡ true → bytes_eq cs ks ≡ false
apart bs cs ks n y = nat_list_eq_equiv.symm cs ks ∙ sym (nat_list_eq_equiv.congr bs ks cs y) ∙ n

apart_in_order : (bs cs ks : List ℕ) → bytes_eq bs cs ≡ false → is_eq (slice_cmp nat_cmp bs ks) ≡ true → is_eq (slice_cmp nat_cmp cs ks) ≡ false
apart_in_order bs cs ks n y = is_eq-slice_cmp cs ks ∙ apart bs cs ks n (sym (is_eq-slice_cmp bs ks) ∙ y)

others : {K X : Type 0} (eq : K → K → Bool) (test : K → Bool) (old new : List (K × X)) → KeepsOthers eq test old new → (other : K → Bool) → IsKeyTest eq other → AreApart test other → lookup other new ≡ lookup other old
unfolding KeepsOthers
others eq test old new h = h

by_names : (name : List ℕ) (f g : List ℕ → Option ℕ) (w : Option ℕ) → g name ≡ w → ((other : List ℕ) → bytes_eq name other ≡ false → g other ≡ f other) → (other : List ℕ) → g other ≡ cond (bytes_eq name other) w (f other)
by_names name f g w here keeps other = elim (cases_Bool (bytes_eq name other)) [
  | inl y ↦ subst (λ l. g l ≡ w) ((bytes_eq-Decides name other).0 y) here ∙ sym (cond-true (bytes_eq name other) w (f other) y)
  | inr n ↦ keeps other n ∙ sym (cond-false (bytes_eq name other) w (f other) n)
]

pub updated : (name : List ℕ) (m n : BTreeMap (Vec ℕ) ℕ) (w : Option ℕ) → tree.UpdatesBy (λ x y. slice_cmp nat_cmp x.items y.items) (λ k. slice_cmp nat_cmp name k.items) m n w → (other : List ℕ) → noted n other ≡ cond (bytes_eq name other) w (noted m other)
updated name m n w h = by_names name (noted m) (noted n) w h.1 (λ other e. others _ _ _ _ h.3 _ (λ x y. (eq_by_cmp_equiv nat_list_cmp_total).congr other x.items y.items) (λ k. apart_in_order name other k.items e))

pub notes : (name key : List ℕ) (number : ℕ) (m n : BTreeMap (Vec ℕ) ℕ) → key ≡ name → is_some (noted m name) ≡ false → tree.UpdatesBy (λ x y. slice_cmp nat_cmp x.items y.items) (λ k. slice_cmp nat_cmp key k.items) m n (Some number) → NotesName name number (noted m) (noted n)
notes name key number m n same none h other =
    updated name m n (Some number) (subst (λ l. tree.UpdatesBy (λ x y. slice_cmp nat_cmp x.items y.items) (λ k. slice_cmp nat_cmp l k.items) m n (Some number)) same h) other
    ∙ rw none (elim (bytes_eq name other) as (λ b. cond b (Some number) (noted m other) ≡ cond (b && true) (Some number) (noted m other)) [ true ↦ refl | false ↦ refl ])

-- ---- one class more

snoc_at : (b : Bool) (p : ClassRecord → Bool) (y x : ClassRecord) (ys : List ClassRecord) (o : Option ℕ) → p y ≡ b → position p ys ≡ o → position p (ys ++ x ∷ []) ≡ option_or o (cond (p x) (Some (length ys)) None) → position p (y ∷ ys ++ x ∷ []) ≡ option_or (position p (y ∷ ys)) (cond (p x) (Some (suc (length ys))) None)
snoc_at b p y x ys o e f h = grind (arith, common_steps)

pub position_snoc : (p : ClassRecord → Bool) (xs : List ClassRecord) (x : ClassRecord) → position p (xs ++ x ∷ []) ≡ option_or (position p xs) (cond (p x) (Some (length xs)) None)
position_snoc p [] x = grind (arith, common_steps)
position_snoc p (y ∷ ys) x = snoc_at (p y) p y x ys (position p ys) refl refl (position_snoc p ys x)

noted_so : (a b : Bool) (o : Option ℕ) (number : ℕ) → a ≡ b → cond (a && is_none o) (Some number) o ≡ option_or o (cond b (Some number) None)
noted_so true true o number e = elim o as (λ q. cond (is_none q) (Some number) q ≡ option_or q (Some number)) [ None ↦ refl | Some x ↦ refl ]
noted_so false false o number e = elim o as (λ q. q ≡ option_or q None) [ None ↦ refl | Some x ↦ refl ]
noted_so true false o number e = absurd cc
noted_so false true o number e = absurd cc

numbered_by : (b : Bool) (name other : List ℕ) (old : List ℕ → Option ℕ) (number : ℕ) → bytes_eq name other ≡ b → cond (bytes_eq name other && is_none (old name)) (Some number) (old other) ≡ cond (bytes_eq name other && is_none (old other)) (Some number) (old other)
numbered_by true name other old number e = rw ((bytes_eq-Decides name other).0 e) refl
numbered_by false name other old number e = rw e refl

pub numbers_next : (w : World) (x : ClassRecord) (old new : List ℕ → Option ℕ) (number : ℕ) → number ≡ length w → AreNumbers w old → NotesName x.name number old new → AreNumbers (w ++ x ∷ []) new
unfolding number_of
numbers_next w x old new number e h n name =
    n name
    ∙ numbered_by (bytes_eq x.name name) x.name name old number refl
    ∙ noted_so (bytes_eq x.name name) (bytes_eq x.name name) (old name) number refl
    ∙ ap (λ o. option_or o (cond (bytes_eq x.name name) (Some number) None)) (h name)
    ∙ ap (λ k. option_or (position (is_named name) w) (cond (bytes_eq x.name name) (Some k) None)) e
    ∙ sym (position_snoc (is_named name) w x)

pub numbers_first : (x : ClassRecord) (name : List ℕ) (m : BTreeMap (Vec ℕ) ℕ) (new : List ℕ → Option ℕ) → m.entries ≡ [] → name ≡ x.name → NotesName name 0 (noted m) new → AreNumbers (x ∷ []) new
unfolding number_of
numbers_first x name m new none e n =
    let empty : AreNumbers [] (noted m) = λ other. ap (λ es. lookup (is_at (λ k. slice_cmp nat_cmp other k.items)) es) none in
    numbers_next [] x (noted m) new 0 refl empty (subst (λ l. NotesName l 0 (noted m) new) e n)

pub numbers_file : (o : ClassRecord) (files : List ClassRecord) (i : ℕ) (x : ClassRecord) (name : List ℕ) (old new : List ℕ → Option ℕ) → i < length files → x ≡ get_or files i x → name ≡ x.name → AreNumbers (o ∷ take i files) old → NotesName name (i + 1) old new → AreNumbers (o ∷ take (i + 1) files) new
numbers_file o files i x name old new lt e same h n =
    let many : i + 1 ≡ length (o ∷ take i files) = grind (arith, common_steps) in
    let more : take (i + 1) files ≡ take i files ++ x ∷ [] = take_more files i x lt ∙ ap (λ y. take i files ++ y ∷ []) (sym e) in
    subst (λ l. AreNumbers (o ∷ l) new) (sym more) (numbers_next (o ∷ take i files) x old new (i + 1) many h (subst (λ l. NotesName l (i + 1) old new) same n))
