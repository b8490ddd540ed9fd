-- No choice comes twice: the row of the greatest key stands on the other side afterwards.
use Rattle.std.specs.Prelude.{◌≡◌, ◌↔◌, ℕ, ◌<◌, max, List, [], ◌∷◌, ◌++◌, Contains}
use Rattle.std.proofs.Common.{arith, inl, inr, sym, subst}
use Rattle.std.proofs.lemmas.Bool.{cases_order}
use Rattle.lin_rows.specs.Linear.{Linear}
use Rattle.solver_paths.specs.Choices.{number_count, Dictionary, AreEqual}
use Rattle.solver_paths.specs.Pivots.{IsPivot, replaced}
use Rattle.solver_paths.specs.Paths.{Goes, key_of, keys_of}
use Rattle.solver_paths.proofs.Chosen.{replaced_has, replaced_keeps, replaced_had, replaced_lost}
use Rattle.solver_paths.proofs.Rulers.{Below, Peak, peak}
use Rattle.solver_paths.proofs.Returns.{pivot_apart, keys_rule, keys_below}

-- lower pivots leave h where it is
lower_keeps : (h : ℕ) (choice : List ℕ) (p : ℕ × ℕ) → key_of p < h → Contains choice h ↔ Contains (replaced p.0 p.1 choice) h
lower_keeps h choice p less = (
  replaced_keeps p.0 p.1 h choice (λ same. absurd (omega arith)),
  λ there. elim (replaced_had p.0 p.1 h choice there) [ inl same ↦ absurd (omega arith) | inr both ↦ both.0 ],
)

stays : (rows : List Linear) (first last : List ℕ) (h : ℕ) (ps : List (ℕ × ℕ)) → Goes rows first ps last → Below h (keys_of ps) → Contains first h ↔ Contains last h
stays rows first last h [] goes b = (subst (λ xs. Contains xs h) goes, subst (λ xs. Contains xs h) (sym goes))
stays rows first last h (p ∷ ps) goes b =
    let here = lower_keeps h first p b.0 in
    let rest = stays rows (replaced p.0 p.1 first) last h ps goes.1 b.1 in
    (λ there. rest.0 (here.0 there), λ there. here.1 (rest.1 there))

-- two choices differ in h
data Differ (h : ℕ) (a b : List ℕ) : Type 0 where
  gone : Contains a h → (Contains b h → ⊥) → Differ h a b
  come : (Contains a h → ⊥) → Contains b h → Differ h a b

before : (h : ℕ) (a b c : List ℕ) → Contains a h ↔ Contains b h → Differ h b c → Differ h a c
before h a b c same (gone there lost) = gone (same.1 there) lost
before h a b c same (come lost there) = come (λ k. lost (same.0 k)) there

after : (h : ℕ) (a b c : List ℕ) → Contains b h ↔ Contains c h → Differ h a b → Differ h a c
after h a b c same (gone there lost) = gone there (λ k. lost (same.1 k))
after h a b c same (come lost there) = come lost (same.0 there)

pivot_differs : (rows : List Linear) (choice : List ℕ) (d : Dictionary) (r c : ℕ) → IsPivot rows choice d r c → Differ (max r c) choice (replaced r c choice)
pivot_differs rows choice d r c p = elim (cases_order r c) [
  | inl same ↦ absurd (pivot_apart p same)
  | inr (inl lt) ↦
      let is : c ≡ max r c = omega arith in
      subst (λ n. Differ n choice (replaced r c choice)) is (gone p.chosen (replaced_lost r c choice (λ e. pivot_apart p (sym e))))
  | inr (inr gt) ↦
      let is : r ≡ max r c = omega arith in
      subst (λ n. Differ n choice (replaced r c choice)) is (come p.worst.out.apart (replaced_has r c choice p.chosen))
]

flips : (rows : List Linear) (first last : List ℕ) (h : ℕ) (left right : List ℕ) (ps : List (ℕ × ℕ)) → Goes rows first ps last → keys_of ps ≡ left ++ h ∷ right → Below h left → Below h right → Differ h first last
flips rows first last h [] right [] goes is b a = absurd (cc)
flips rows first last h (k ∷ left) right [] goes is b a = absurd (cc)
flips rows first last h [] right (p ∷ ps) goes is b a =
    let key : max p.0 p.1 ≡ h = cc in
    let keys : keys_of ps ≡ right = cc in
    let here = subst (λ n. Differ n first (replaced p.0 p.1 first)) key (pivot_differs rows first goes.0.own p.0 p.1 goes.0.pivot) in
    after h first (replaced p.0 p.1 first) last (stays rows (replaced p.0 p.1 first) last h ps goes.1 (subst (Below h) (sym keys) a)) here
flips rows first last h (k ∷ left) right (p ∷ ps) goes is b a =
    let key : max p.0 p.1 ≡ k = cc in
    let keys : keys_of ps ≡ left ++ h ∷ right = cc in
    let less : max p.0 p.1 < h = subst (λ n. n < h) (sym key) b.0 in
    before h first (replaced p.0 p.1 first) last (lower_keeps h first p less) (flips rows (replaced p.0 p.1 first) last h left right ps goes.1 keys b.1 a)

differ_unequal : (h : ℕ) (a b : List ℕ) → Differ h a b → AreEqual a b → ⊥
differ_unequal h a b (gone there lost) same = lost ((same h).0 there)
differ_unequal h a b (come lost there) same = lost ((same h).1 there)

pub never_twice : (rows : List Linear) (first last : List ℕ) (p : ℕ × ℕ) (ps : List (ℕ × ℕ)) → Goes rows first (p ∷ ps) last → AreEqual first last → ⊥
never_twice rows first last p ps goes same =
    let top : Peak (keys_of (p ∷ ps)) = peak (number_count rows) (keys_of (p ∷ ps)) (keys_below rows first last (p ∷ ps) goes) (keys_rule rows first last (p ∷ ps) goes) (λ e. absurd (cc)) in
    differ_unequal top.greatest first last (flips rows first last top.greatest top.left top.right (p ∷ ps) goes top.is top.before top.after) same
