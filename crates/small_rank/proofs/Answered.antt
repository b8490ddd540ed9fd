-- What a search answers, from what the functions that it tries answer.
use Rattle.std.specs.Prelude.{◌≡◌, ℕ, List, length, Option, Some, None, Result, Ok, Err, IfOk, MatchOption}
use Rattle.std.proofs.Common.{sym, ap, ◌∙◌, subst}
use Rattle.lin_rows.specs.declared.row.Transition.{Transition}
use Rattle.lin_rows.specs.Linear.{Linear}
use Rattle.small_cert.specs.Order.{terms_of}
use Rattle.small_rank.specs.declared.functions.Found.{Found}
use Rattle.small_rank.specs.Ranking.{IsFunction}
use Rattle.small_rank.specs.inside.Search.{HasNoRankingBy, HasNoneBefore, HasNoneUpTo, IsFoundBy, IsFirstFound}
use Rattle.small_rank.proofs.Shapes.{Term, key_in}
use Rattle.small_rank.proofs.Moves.{tried_none, tried_some}

-- what a function answers
abbrev pub Tried : List Transition → Linear → Option Found → Type 0
Tried steps f o = MatchOption o (HasNoRankingBy steps (length f.coefficients) f) (λ r. (r.function ≡ f) × IsFoundBy steps (length f.coefficients) r)

-- and what that says of all up to it
abbrev pub Searched : List Transition → ℕ → List ℕ → Option Found → Type 0
Searched steps n key o = MatchOption o (HasNoneUpTo steps n key) (IsFirstFound steps n)

searched : (steps : List Transition) (n : ℕ) (f : Linear) (ts : List Term) (o : Option Found) → IsFunction n f → terms_of f ≡ ts → HasNoneBefore steps n (key_in ts) → Tried steps f o → Searched steps n (key_in ts) o
searched steps n f ts None h is before t = tried_none steps n f ts h is before (subst (λ (m : ℕ). HasNoRankingBy steps m f) h.sizes t)
searched steps n f ts (Some r) h is before t = tried_some steps n r ts (ap (λ (g : Linear). terms_of g) t.0 ∙ is) before (subst (λ (m : ℕ). IsFoundBy steps m r) h.sizes t.1)

pub tried_searched : {E : Type 0} (steps : List Transition) (n : ℕ) (f : Linear) (ts : List Term) (r : Result (Option Found) E) → IsFunction n f → terms_of f ≡ ts → HasNoneBefore steps n (key_in ts) → IfOk r (Tried steps f) → IfOk r (Searched steps n (key_in ts))
tried_searched steps n f ts (Ok o) h is before t = searched steps n f ts o h is before t
tried_searched steps n f ts (Err e) h is before t = tt

pub own_size : (n : ℕ) (f : Linear) → IsFunction n f → IsFunction (length f.coefficients) f
own_size n f h = subst (λ (m : ℕ). IsFunction m f) (sym h.sizes) h

option_moved : (P Q : Type 0) (R : Found → Type 0) (o : Option Found) → (P → Q) → MatchOption o P R → MatchOption o Q R
option_moved P Q R None move h = move h
option_moved P Q R (Some r) move h = h

pub answer_moved : {E : Type 0} (P Q : Type 0) (R : Found → Type 0) (r : Result (Option Found) E) → (P → Q) → IfOk r (λ o. MatchOption o P R) → IfOk r (λ o. MatchOption o Q R)
answer_moved P Q R (Ok o) move h = option_moved P Q R o move h
answer_moved P Q R (Err e) move h = tt
