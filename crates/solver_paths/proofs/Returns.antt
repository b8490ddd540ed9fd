-- On a path, between two pivots of one key stands one of a greater key: the keys are a ruler.
use Rattle.std.specs.Prelude.{◌≡◌, ℕ, ◌<◌, ◌^◌, max, List, [], ◌∷◌, length, Contains}
use Rattle.std.proofs.Common.{arith, inl, inr, sym, subst}
use Rattle.std.proofs.lemmas.Bool.{cases_order}
use Rattle.std.proofs.lemmas.List.Elements.{All-contains}
use Rattle.std.proofs.lemmas.List.{length-map}
use Rattle.lin_rows.specs.Linear.{Linear}
use Rattle.solver_paths.specs.Choices.{number_count, Dictionary, IsDictionary}
use Rattle.solver_paths.specs.Pivots.{IsPivot, replaced}
use Rattle.solver_paths.specs.Paths.{IsStep, Goes, key_of, keys_of}
use Rattle.solver_paths.specs.Rulers.{NoReturn, IsRuler}
use Rattle.solver_paths.proofs.Chosen.{replaced_has, replaced_keeps, replaced_had, replaced_lost}
use Rattle.solver_paths.proofs.Clashes.{clash}
use Rattle.solver_paths.proofs.Rulers.{Below, short}

-- the two numbers of a pivot differ
pub pivot_apart : {rows : List Linear} {choice : List ℕ} {d : Dictionary} {r c : ℕ} → IsPivot rows choice d r c → r ≡ c → ⊥
pivot_apart {rows} {choice} {d} {r} {c} p e = p.worst.out.apart (subst (Contains choice) (sym e) p.chosen)

-- ---- what holds since a pivot of key h, while only lower keys came
-- the pivot let h enter, or let it leave; and h stands so still
data State (r c h : ℕ) (now : List ℕ) : Type 0 where
  entered : r ≡ h → c < h → Contains now h → State r c h now
  left : c ≡ h → r < h → (Contains now h → ⊥) → State r c h now

record Since (rows : List Linear) (then : List ℕ) (d : Dictionary) (r c h : ℕ) (now : List ℕ) : Type 0 where
  dictionary : IsDictionary rows then d
  pivot : IsPivot rows then d r c
  kept : (s : ℕ) → h < s → Contains then s → Contains now s
  came : (s : ℕ) → h < s → Contains now s → Contains then s
  state : State r c h now

-- ---- a pivot of that key can't come now
entering : (rows : List Linear) (then now : List ℕ) (d : Dictionary) (r c h : ℕ) (p : ℕ × ℕ) → Since rows then d r c h now → State r c h now → IsStep rows now p.0 p.1 → p.0 ≡ h → p.1 < h → ⊥
entering rows then now d r c h p since (entered e lt there) step same less = step.pivot.worst.out.apart (subst (Contains now) (sym same) there)
entering rows then now d r c h p since (left e lt gone) step same less =
    let second : IsPivot rows then d r h = subst (λ n. IsPivot rows then d r n) e since.pivot in
    let first : IsPivot rows now step.own h p.1 = subst (λ n. IsPivot rows now step.own n p.1) same step.pivot in
    clash rows now then step.own d h p.1 r step.dictionary first since.dictionary second lt since.kept

leaving : (rows : List Linear) (then now : List ℕ) (d : Dictionary) (r c h : ℕ) (p : ℕ × ℕ) → Since rows then d r c h now → State r c h now → IsStep rows now p.0 p.1 → p.1 ≡ h → p.0 < h → ⊥
leaving rows then now d r c h p since (left e lt gone) step same less = gone (subst (Contains now) same step.pivot.chosen)
leaving rows then now d r c h p since (entered e lt there) step same less =
    let first : IsPivot rows then d h c = subst (λ n. IsPivot rows then d n c) e since.pivot in
    let second : IsPivot rows now step.own p.0 h = subst (λ n. IsPivot rows now step.own p.0 n) same step.pivot in
    clash rows then now d step.own h c p.0 since.dictionary first step.dictionary second less since.came

no_same_key : (rows : List Linear) (then now : List ℕ) (d : Dictionary) (r c h : ℕ) (p : ℕ × ℕ) → Since rows then d r c h now → IsStep rows now p.0 p.1 → key_of p ≡ h → ⊥
no_same_key rows then now d r c h p since step e = elim (cases_order p.0 p.1) [
  | inl same ↦ pivot_apart step.pivot same
  | inr (inl lt) ↦ leaving rows then now d r c h p since since.state step (omega arith) (omega arith)
  | inr (inr gt) ↦ entering rows then now d r c h p since since.state step (omega arith) (omega arith)
]

-- ---- a pivot of a lower key changes nothing of it
lower_state : (r c h : ℕ) (now : List ℕ) (p : ℕ × ℕ) → State r c h now → key_of p < h → State r c h (replaced p.0 p.1 now)
lower_state r c h now p (entered e lt there) less = entered e lt (replaced_keeps p.0 p.1 h now (λ same. absurd (omega arith)) there)
lower_state r c h now p (left e lt gone) less = left e lt (λ there. elim (replaced_had p.0 p.1 h now there) [ inl same ↦ absurd (omega arith) | inr both ↦ gone both.0 ])

lower_since : (rows : List Linear) (then now : List ℕ) (d : Dictionary) (r c h : ℕ) (p : ℕ × ℕ) → Since rows then d r c h now → key_of p < h → Since rows then d r c h (replaced p.0 p.1 now)
lower_since rows then now d r c h p since less = record {
  dictionary = since.dictionary;
  pivot = since.pivot;
  kept = λ s gt there. replaced_keeps p.0 p.1 s now (λ same. absurd (omega arith)) (since.kept s gt there);
  came = λ s gt there. elim (replaced_had p.0 p.1 s now there) [ inl same ↦ absurd (omega arith) | inr both ↦ since.came s gt both.0 ];
  state = lower_state r c h now p since.state less;
}

-- ---- the pivot itself
first_state : (rows : List Linear) (choice : List ℕ) (d : Dictionary) (r c : ℕ) → IsPivot rows choice d r c → State r c (max r c) (replaced r c choice)
first_state rows choice d r c p = elim (cases_order r c) [
  | inl same ↦ absurd (pivot_apart p same)
  | inr (inl lt) ↦
      let is : c ≡ max r c = omega arith in
      left is (omega arith) (λ there. replaced_lost r c choice (λ e. pivot_apart p (sym e)) (subst (Contains (replaced r c choice)) (sym is) there))
  | inr (inr gt) ↦
      let is : r ≡ max r c = omega arith in
      entered is (omega arith) (subst (Contains (replaced r c choice)) is (replaced_has r c choice p.chosen))
]

since_first : (rows : List Linear) (choice : List ℕ) (r c : ℕ) (step : IsStep rows choice r c) → Since rows choice step.own r c (max r c) (replaced r c choice)
since_first rows choice r c step = record {
  dictionary = step.dictionary;
  pivot = step.pivot;
  kept = λ s gt there. replaced_keeps r c s choice (λ same. absurd (omega arith)) there;
  came = λ s gt there. elim (replaced_had r c s choice there) [ inl same ↦ absurd (omega arith) | inr both ↦ both.0 ];
  state = first_state rows choice step.own r c step.pivot;
}

-- ---- the keys of a path
no_return : (rows : List Linear) (then now last : List ℕ) (d : Dictionary) (r c h : ℕ) (ps : List (ℕ × ℕ)) → Since rows then d r c h now → Goes rows now ps last → NoReturn h (keys_of ps)
no_return rows then now last d r c h [] since goes = tt
no_return rows then now last d r c h (p ∷ ps) since goes = (
  no_same_key rows then now d r c h p since goes.0,
  λ less. no_return rows then (replaced p.0 p.1 now) last d r c h ps (lower_since rows then now d r c h p since less) goes.1,
)

pub keys_rule : (rows : List Linear) (first last : List ℕ) (ps : List (ℕ × ℕ)) → Goes rows first ps last → IsRuler (keys_of ps)
keys_rule rows first last [] goes = tt
keys_rule rows first last (p ∷ ps) goes = (
  no_return rows first (replaced p.0 p.1 first) last goes.0.own p.0 p.1 (max p.0 p.1) ps (since_first rows first p.0 p.1 goes.0) goes.1,
  keys_rule rows (replaced p.0 p.1 first) last ps goes.1,
)

pub keys_below : (rows : List Linear) (first last : List ℕ) (ps : List (ℕ × ℕ)) → Goes rows first ps last → Below (number_count rows) (keys_of ps)
keys_below rows first last [] goes = tt
keys_below rows first last (p ∷ ps) goes =
    let step = goes.0 in
    let row = step.pivot.worst.row.within in
    let chosen : p.1 < number_count rows = All-contains (λ (n : ℕ). n < number_count rows) first p.1 step.dictionary.below step.pivot.chosen in
    (below p.0 p.1 (number_count rows) row chosen, keys_below rows (replaced p.0 p.1 first) last ps goes.1)
  where
    below : (a b n : ℕ) → a < n → b < n → max a b < n
    below a b n h k = omega arith

-- so it is shorter than the power of 2 to as many as there are numbers
pub path_short : (rows : List Linear) (first last : List ℕ) (ps : List (ℕ × ℕ)) → Goes rows first ps last → length ps < 2 ^ number_count rows
path_short rows first last ps goes =
    subst (λ n. n < 2 ^ number_count rows) (length-map ps key_of) (short (number_count rows) (keys_of ps) (keys_below rows first last ps goes) (keys_rule rows first last ps goes))
