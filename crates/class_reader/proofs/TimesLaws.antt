-- Loops of reading: so many steps that pass are so many pieces.
use Rattle.std.proofs.Common.{◌≡◌, ℕ, zero, suc, List, [], ◌∷◌, ◌++◌, length, Option, Some, refl, sym, ap, subst, ◌∙◌, append_assoc, arith}
use Rattle.std.proofs.lemmas.List.{append-nil}
use Rattle.byteorder.specs.Endian.{big_bytes}
use Rattle.class_pool.specs.Place.{Place, IsBytes}
use Rattle.class_pool.specs.Pieces.{Each, Counted, StartsWith}
use Rattle.class_pool.proofs.Pieces.{IsNumber, starts_both, starts-rest}
use Rattle.class_reader.specs.Met.{Met, Passes, times, pushed, counted_at, times_at}
use Rattle.class_reader.proofs.MetLaws.{stepped, steps, passes_is, Spans, spanned, starts, joined, middle_of, first_of_two, second_of_two, rewritten, IsReader, took, takes_first, num_reader}

-- ---- steps from state to state

-- a step that passes goes from one state to another by an element
pub record IsStep {S A : Type 0} (step : S → Met S) (Fits : S → Type 0) (Is : S → A → S → Type 0) : Type 0 where
  pub takes : (s t : S) → Fits s → Passes (step s) t → (x : A) × Is s x t × Fits t
  pub again : (s t : S) (x : A) → Is s x t → Passes (step s) t

-- by these elements, one after another
abbrev pub Chain : {S A : Type 0} → (S → A → S → Type 0) → S → List A → S → Type 0
Chain Is s [] t = s ≡ t
Chain {S = S} {A = A} Is s (x ∷ xs) t = (m : S) × Is s x m × Chain {S = S} {A = A} Is m xs t

-- so many elements of a loop
pub record Looped {S A : Type 0} (Fits : S → Type 0) (Is : S → A → S → Type 0) (n : ℕ) (s t : S) : Type 0 where
  pub elements : List A
  pub sized : length elements ≡ n
  pub chain : Chain {S = S} {A = A} Is s elements t
  pub fits : Fits t

pub times_take : {S A : Type 0} {step : S → Met S} {Fits : S → Type 0} {Is : S → A → S → Type 0} (one : IsStep step Fits Is) (n : ℕ) (s t : S) → Fits s → Passes (times step n s) t → Looped Fits Is n s t
unfolding times
times_take {S} {A} {step} {Fits} {Is} one zero s t fits p =
    let same = passes_is s t p in
    record { elements = []; sized = refl; chain = same; fits = subst Fits same fits }
times_take {S} {A} {step} {Fits} {Is} one (suc n) s t fits p =
    let first = stepped (step s) (times step n) t p in
    let x = one.takes s first.0 fits first.1 in
    let others = times_take one n first.0 t x.2 first.2 in
    record { elements = x.0 ∷ others.elements; sized = ap suc others.sized; chain = (first.0, x.1, others.chain); fits = others.fits }

pub times_again : {S A : Type 0} {step : S → Met S} {Fits : S → Type 0} {Is : S → A → S → Type 0} (one : IsStep step Fits Is) (xs : List A) (s t : S) → Chain {S = S} {A = A} Is s xs t → Passes (times step (length xs) s) t
unfolding times
times_again {S} one [] s t c = (ap (λ (u : S). Some u) c, refl)
times_again {S} {A} {step} one (x ∷ xs) s t c = steps (times step (length xs)) (one.again s c.0 x c.1) (times_again one xs c.0 t c.2)

-- ---- what is read behind what was read

-- reading that goes from state to state
pub record ReadsFrom {S A : Type 0} (read : S → Met (A × S)) (Fits : S → Type 0) (Is : S → A → S → Type 0) : Type 0 where
  pub takes : (s : S) (x : A) (t : S) → Fits s → Passes (read s) (x, t) → Is s x t × Fits t
  pub again : (s : S) (x : A) (t : S) → Is s x t → Passes (read s) (x, t)

abbrev pub Pushes : {S A : Type 0} → (S → A → S → Type 0) → List A × S → A → List A × S → Type 0
Pushes Is p x q = (q.0 ≡ p.0 ++ x ∷ []) × Is p.1 x q.1

pushed_step : {S A : Type 0} {read : S → Met (A × S)} {Fits : S → Type 0} {Is : S → A → S → Type 0} (one : ReadsFrom read Fits Is) → IsStep (pushed read) (λ p. Fits p.1) (Pushes Is)
unfolding pushed
pushed_step {S} {A} {read} {Fits} {Is} one = record {
  takes = λ s t fits p.
      let x = stepped (read s.1) _ t p in
      let same = passes_is (s.0 ++ x.0.0 ∷ [], x.0.1) t x.2 in
      let is = one.takes s.1 x.0.0 x.0.1 fits x.1 in
      (x.0.0, subst (λ (q : List A × S). Pushes Is s x.0.0 q) same (refl, is.0), subst (λ (q : List A × S). Fits q.1) same is.1);
  again = λ s t x is.
      steps _ (one.again s.1 x t.1 is.1) (ap (λ (l : List A). let o : Option (List A × S) = Some (l, t.1) in o) (sym is.0), refl);
}

pushes_chain : {S A : Type 0} (Is : S → A → S → Type 0) (xs front all : List A) (s t : S) → Chain {S = List A × S} {A = A} (Pushes Is) (front, s) xs (all, t) → (all ≡ front ++ xs) × Chain {S = S} {A = A} Is s xs t
pushes_chain {S} {A} Is [] front all s t c = (ap (λ (p : List A × S). p.0) (sym c) ∙ sym (append-nil front), ap (λ (p : List A × S). p.1) c)
pushes_chain {S} {A} Is (x ∷ xs) front all s t c =
    let others = pushes_chain Is xs c.0.0 all c.0.1 t c.2 in
    (others.0 ∙ ap (λ (l : List A). l ++ xs) c.1.0 ∙ append_assoc front (x ∷ []) xs, (c.0.1, c.1.1, others.1))

chain_pushes : {S A : Type 0} (Is : S → A → S → Type 0) (xs front : List A) (s t : S) → Chain {S = S} {A = A} Is s xs t → Chain {S = List A × S} {A = A} (Pushes Is) (front, s) xs (front ++ xs, t)
chain_pushes {S} {A} Is [] front s t c = let whole = append-nil front in rw (whole, c) refl
chain_pushes {S} {A} Is (x ∷ xs) front s t c =
    let others = chain_pushes Is xs (front ++ x ∷ []) c.0 t c.2 in
    let whole : (front ++ x ∷ []) ++ xs ≡ front ++ (x ∷ xs) = append_assoc front (x ∷ []) xs in
    ((front ++ x ∷ [], c.0), (refl, c.1), subst (λ (l : List A). Chain {S = List A × S} {A = A} (Pushes Is) (front ++ x ∷ [], c.0) xs (l, t)) whole others)

pub record ManyRead {S A : Type 0} (Fits : S → Type 0) (Is : S → A → S → Type 0) (n : ℕ) (s : S) (xs : List A) (t : S) : Type 0 where
  pub sized : length xs ≡ n
  pub chain : Chain {S = S} {A = A} Is s xs t
  pub fits : Fits t

pub many_take : {S A : Type 0} {read : S → Met (A × S)} {Fits : S → Type 0} {Is : S → A → S → Type 0} (one : ReadsFrom read Fits Is) (n : ℕ) (s : S) (xs : List A) (t : S) → Fits s
    → Passes (times (pushed read) n ([], s)) (xs, t) → ManyRead Fits Is n s xs t
many_take {S} {A} {read} {Fits} {Is} one n s xs t fits p =
    let l = times_take (pushed_step one) n ([], s) (xs, t) fits p in
    let c = pushes_chain Is l.elements [] xs s t l.chain in
    record { sized = ap length c.0 ∙ l.sized; chain = subst (λ (ys : List A). Chain {S = S} {A = A} Is s ys t) (sym c.0) c.1; fits = l.fits }

pub many_again : {S A : Type 0} {read : S → Met (A × S)} {Fits : S → Type 0} {Is : S → A → S → Type 0} (one : ReadsFrom read Fits Is) (s : S) (xs : List A) (t : S) → Chain {S = S} {A = A} Is s xs t
    → Passes (times (pushed read) (length xs) ([], s)) (xs, t)
many_again {S} {A} {read} {Fits} {Is} one s xs t c = times_again (pushed_step one) xs ([], s) (xs, t) (chain_pushes Is xs [] s t c)

-- ---- pieces

abbrev pub BytesAt : Place → Type 0
BytesAt place = IsBytes place.rest

pub chain_each : {A : Type 0} (Is : List ℕ → A → Type 0) (xs : List A) (place next : Place) → Chain {S = Place} {A = A} (StartsWith Is) place xs next → StartsWith (Each Is) place xs next
chain_each Is [] place next c = record { piece = []; is = refl; parts = ap (λ (p : Place). p.rest) c; moved = omega (arith, ap (λ (p : Place). p.at) c) }
chain_each Is (x ∷ xs) place next c =
    let both = starts_both Is (Each Is) place c.0 next x xs c.1 (chain_each Is xs c.0 next c.2) in
    record { piece = both.piece; is = both.is; parts = both.parts; moved = both.moved }

pub each_chain : {A : Type 0} (Is : List ℕ → A → Type 0) (xs : List A) (piece : List ℕ) (place next : Place) → Each Is piece xs → Spans place piece next → Chain {S = Place} {A = A} (StartsWith Is) place xs next
each_chain Is [] piece place next each spans =
    let rest : place.rest ≡ next.rest = spans.parts ∙ ap (λ (b : List ℕ). b ++ next.rest) each in
    let at : place.at ≡ next.at = omega (arith, spans.moved, ap length each) in
    rw (rest, at) refl
each_chain Is (x ∷ xs) piece place next each spans =
    let both = rewritten each.2 spans in
    (middle_of place each.0 each.1 next, starts Is x each.0 (first_of_two each.0 each.1 both) each.3, each_chain Is xs each.1 (middle_of place each.0 each.1 next) next each.4 (second_of_two each.0 each.1 both))

-- a count, and a loop behind it
pub record CountedTo {A : Type 0} (Is : List ℕ → A → Type 0) (place middle : Place) (xs : List A) (next : Place) : Type 0 where
  pub count : StartsWith (IsNumber 2) place (length xs) middle
  pub others : StartsWith (Each Is) middle xs next

pub counted_made : {A : Type 0} {Is : List ℕ → A → Type 0} {place middle : Place} {xs : List A} {next : Place} (c : CountedTo Is place middle xs next) → StartsWith (Counted Is) place xs next
counted_made {A} {Is} {place} {middle} {xs} {next} c =
    starts (Counted Is) xs (big_bytes 2 (length xs) ++ c.others.piece) (joined (rewritten c.count.is.0 (spanned c.count)) (spanned c.others))
    (record { pieces = c.others.piece; short = c.count.is.1; parts = refl; each = c.others.is })

reads_pieces : {A : Type 0} {read : Place → Met (A × Place)} {Is : List ℕ → A → Type 0} (reader : IsReader read Is) → ReadsFrom read BytesAt (StartsWith Is)
reads_pieces {A} {read} {Is} reader = record {
  takes = λ s x t fits p. let one = reader.takes s x t fits p in (one, starts-rest Is s t x one fits);
  again = reader.again;
}

pub counted : {A : Type 0} {read : Place → Met (A × Place)} {Is : List ℕ → A → Type 0} (reader : IsReader read Is) → IsReader (counted_at read) (Counted Is)
unfolding counted_at
counted {A} {read} {Is} reader = record {
  takes = λ place xs next fits p.
      let count = took (num_reader 2) place _ (xs, next) fits p in
      let many = many_take (reads_pieces reader) count.value count.next xs next count.fits count.others in
      let sized = subst (λ (k : ℕ). StartsWith (IsNumber 2) place k count.next) (sym many.sized) count.starts in
      counted_made (record { count = sized; others = chain_each Is xs count.next next many.chain });
  again = λ place xs next s.
      let spans = rewritten s.is.parts (spanned s) in
      let front : List ℕ = big_bytes 2 (length xs) in
      let middle : Place = middle_of place front s.is.pieces next in
      takes_first (num_reader 2) (length xs) front s.is.pieces _ spans (refl, s.is.short)
      (many_again (reads_pieces reader) middle xs next (each_chain Is xs s.is.pieces middle next s.is.each (second_of_two front s.is.pieces spans)));
}

-- steps that pass pieces, of which nothing is kept
pub skipped_take : {A : Type 0} {step : Place → Met Place} {Is : List ℕ → A → Type 0} (one : IsStep step BytesAt (StartsWith Is)) (place next : Place) → IsBytes place.rest → Passes (times_at step place) next
    → (xs : List A) × StartsWith (Counted Is) place xs next
unfolding times_at
skipped_take {A} {step} {Is} one place next fits p =
    let count = took (num_reader 2) place _ next fits p in
    let l = times_take one count.value count.next next count.fits count.others in
    let sized = subst (λ (k : ℕ). StartsWith (IsNumber 2) place k count.next) (sym l.sized) count.starts in
    (l.elements, counted_made (record { count = sized; others = chain_each Is l.elements count.next next l.chain }))

pub skipped_again : {A : Type 0} {step : Place → Met Place} {Is : List ℕ → A → Type 0} (one : IsStep step BytesAt (StartsWith Is)) (place next : Place) (xs : List A) → StartsWith (Counted Is) place xs next → Passes (times_at step place) next
unfolding times_at
skipped_again {A} {step} {Is} one place next xs s =
    let spans = rewritten s.is.parts (spanned s) in
    let front : List ℕ = big_bytes 2 (length xs) in
    let middle : Place = middle_of place front s.is.pieces next in
    takes_first (num_reader 2) (length xs) front s.is.pieces _ spans (refl, s.is.short)
    (times_again one xs middle next (each_chain Is xs s.is.pieces middle next s.is.each (second_of_two front s.is.pieces spans)))
