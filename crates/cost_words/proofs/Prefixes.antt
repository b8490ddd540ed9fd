-- What stands behind the beginning of a word.
use Rattle.std.proofs.Common.{◌≡◌, ℕ, List, length, drop, true, false, eqb, Option, Some, None, Bor, refl, sym, ap, subst, ◌∙◌}
use Rattle.std.specs.Option.{MatchOption, option_map}
use Rattle.std.specs.List.{starts_with}
use Rattle.std.specs.Str.{IsCharBoundary}
use Rattle.std.specs.Str.Pattern.{FindsTextPrefix, StripsPrefix}
use Rattle.std.proofs.lemmas.Str.Pattern.{starts_text}
use Rattle.cost_words.specs.Grammar.{behind}

pub behind_is : (front word : List ℕ) (r : Option (Bor (List ℕ))) → MatchOption r (FindsTextPrefix front word None) (λ x. StripsPrefix (FindsTextPrefix front) word x.now)
    → option_map (λ (text : Bor (List ℕ)). text.now) r ≡ behind front word
behind_is front word None h =
    let test : false ≡ starts_with eqb word front = starts_text false front word h in
    rw (← test) refl
behind_is front word (Some x) h =
    let here : h.0 ≡ length front = h.1.0 in
    let test : true ≡ starts_with eqb word front = starts_text true front word (h.0, h.1, subst (λ (n : ℕ). IsCharBoundary word n) (sym here) h.1.2) in
    let rest : x.now ≡ drop (length front) word = h.2 ∙ ap (λ (n : ℕ). drop n word) here in
    rw (← test, rest) refl
