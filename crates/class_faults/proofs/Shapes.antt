-- The parts of a Code attribute: what was read of them fills it, and where they fill it they are read.
use Rattle.std.proofs.Common.{◌≡◌, ℕ, zero, suc, ◌+◌, ◌^◌, ◌<◌, Bool, true, false, cond, eqb, leb, ◌&&◌, List, [], ◌∷◌, ◌++◌, length, Option, Some, None, refl, sym, ap, subst, ◌∙◌, arith}
use Rattle.std.specs.List.{AllByRecursion}
use Rattle.std.proofs.lemmas.Bool.{and_parts, eqb-true, leb-true}
use Rattle.std.proofs.lemmas.List.{length-append, append-nil, nil_from_length}
use Rattle.byteorder.specs.Endian.{big_bytes}
use Rattle.class_pool.specs.declared.constant.Constant.{Constant}
use Rattle.class_pool.specs.declared.fault.PoolFault.TheVariants.{BadIndex}
use Rattle.class_pool.specs.Place.{Place, IsBytes}
use Rattle.class_pool.specs.Pieces.{Each, Counted, StartsWith}
use Rattle.class_pool.specs.Pool.{class_name_at}
use Rattle.class_pool.proofs.Pieces.{Each-push, starts-rest}
use Rattle.class_reader.specs.declared.class.Code.{Code}
use Rattle.class_reader.specs.declared.class.Handler.{Handler}
use Rattle.class_reader.specs.declared.fault.ClassFault.{ClassFault}
use Rattle.class_reader.specs.declared.fault.ClassFault.TheVariants.{Pool}
use Rattle.class_reader.specs.Met.{Met, num_at, bytes_at, times, pushed, counted_at, times_at}
use Rattle.class_reader.specs.ClassReading.{index_faults, attribute_at, skipped_at, catch_faults, catch_of, catch_at, handler_at, instructions_at, code_at, is_filled}
use Rattle.class_reader.proofs.MetLaws.{Spans, spanned, starts, joined, rewritten}
use Rattle.class_reader.proofs.TimesLaws.{counted_made}
use Rattle.class_faults.specs.Pieces.{IsNumber, RawAttribute, IsRawAttribute, AreInstructions, IsRawHandler, IsFilled}
use Rattle.class_faults.specs.Faults.{caught_at}
use Rattle.class_faults.proofs.Yields.{Yields, yields_done, yields_with, yields_then, yields_as, num_yields, bytes_yield, times_yield, pushed_yields}
use Rattle.class_faults.proofs.Heads.{number_sized, AttributeRead, attribute_yields}

-- ---- a handler

catch_told : (P : ClassFault → Type 0) (at index : ℕ) (any : Bool) (found : Option (List ℕ)) → (cond any (Some []) found ≡ None → P (Pool (BadIndex at index))) → AllByRecursion P (cond any [] (index_faults at index found))
catch_told P at index true found h = tt
catch_told P at index false None h = (h refl, tt)
catch_told P at index false (Some class) h = tt

catch_yields : {P : ClassFault → Type 0} {Cut : Type 0} (pool : List (Option Constant)) (place : Place) → IsBytes place.rest → (length place.rest < 2 → Cut)
    → ((index : ℕ) (next : Place) → StartsWith (IsNumber 2) place index next → caught_at pool index ≡ None → P (Pool (BadIndex place.at index)))
    → Yields P Cut (λ (z : Option (List ℕ) × Place). (index : ℕ) × StartsWith (IsNumber 2) place index z.1) (catch_at pool place)
unfolding catch_at
catch_yields {P} pool place fits short bad =
    yields_then (λ (z : ℕ × Place). StartsWith (IsNumber 2) place z.0 z.1) (num_at 2 place) _ (num_yields 2 place fits short)
    (λ z s. yields_with (catch_faults pool place.at z.0) (catch_of pool z.0, z.1) (catch_told P place.at z.0 (eqb z.0 0) (class_name_at pool z.0) (λ e. bad z.0 z.1 s e)) (z.0, s))

handler_made : (place p q r next : Place) (a b c catch : ℕ) → StartsWith (IsNumber 2) place a p → StartsWith (IsNumber 2) p b q → StartsWith (IsNumber 2) q c r → StartsWith (IsNumber 2) r catch next → StartsWith IsRawHandler place catch next
handler_made place p q r next a b c catch s t u v =
    let front = joined (spanned s) (joined (spanned t) (spanned u)) in
    starts IsRawHandler catch ((s.piece ++ (t.piece ++ u.piece)) ++ big_bytes 2 catch) (joined front (rewritten v.is.0 (spanned v)))
    (record {
      places = s.piece ++ (t.piece ++ u.piece);
      six =
          omega (arith, length-append s.piece (t.piece ++ u.piece), length-append t.piece u.piece, (number_sized 2 place a p s).sized, (number_sized 2 p b q t).sized, (number_sized 2 q c r u).sized);
      catch_fits = v.is.1;
      parts = refl;
    })

-- of a handler whose class isn't there more is known
pub handler_yields : {P : ClassFault → Type 0} {Cut : Type 0} (pool : List (Option Constant)) (place : Place) → IsBytes place.rest → (length place.rest < 8 → Cut)
    → ((index : ℕ) (p next : Place) (front : List ℕ) → Spans place front p → length front ≡ 6 → StartsWith (IsNumber 2) p index next → caught_at pool index ≡ None → P (Pool (BadIndex p.at index)))
    → Yields P Cut (λ (z : Handler × Place). (catch : ℕ) × StartsWith IsRawHandler place catch z.1) (handler_at pool place)
unfolding handler_at
handler_yields {P} pool place fits short bad =
    yields_then (λ (z : ℕ × Place). StartsWith (IsNumber 2) place z.0 z.1) (num_at 2 place) _ (num_yields 2 place fits (λ lt. short (omega (arith, lt))))
    (λ a s.
    let one = number_sized 2 place a.0 a.1 s in
    let fits1 = starts-rest (IsNumber 2) place a.1 a.0 s fits in
    yields_then (λ (z : ℕ × Place). StartsWith (IsNumber 2) a.1 z.0 z.1) (num_at 2 a.1) _ (num_yields 2 a.1 fits1 (λ lt. short (omega (arith, lt, one.all))))
    (λ b t.
    let two = number_sized 2 a.1 b.0 b.1 t in
    let fits2 = starts-rest (IsNumber 2) a.1 b.1 b.0 t fits1 in
    yields_then (λ (z : ℕ × Place). StartsWith (IsNumber 2) b.1 z.0 z.1) (num_at 2 b.1) _ (num_yields 2 b.1 fits2 (λ lt. short (omega (arith, lt, one.all, two.all))))
    (λ c u.
    let three = number_sized 2 b.1 c.0 c.1 u in
    yields_then (λ (z : Option (List ℕ) × Place). (index : ℕ) × StartsWith (IsNumber 2) c.1 index z.1) (catch_at pool c.1) _
    (catch_yields pool c.1 (starts-rest (IsNumber 2) b.1 c.1 c.0 u fits2) (λ lt. short (omega (arith, lt, one.all, two.all, three.all)))
    (λ index next v nothing. bad index c.1 next (s.piece ++ (t.piece ++ u.piece)) (joined (spanned s) (joined (spanned t) (spanned u)))
    (omega (arith, length-append s.piece (t.piece ++ u.piece), length-append t.piece u.piece, one.sized, two.sized, three.sized)) v nothing))
    (λ d v. yields_done (record { start = a.0; end = b.0; handler = c.0; catch = d.0 }, d.1) (v.0, handler_made place a.1 b.1 c.1 d.1 a.0 b.0 c.0 v.0 s t u v.1)))))

-- ---- the shape of what was read, whatever its faults are

abbrev Shapes : {A : Type 0} → (A → Type 0) → Met A → Type 0
Shapes K met = Yields (λ (f : ClassFault). Unit {0}) (Unit {0}) K met

-- so many pieces were read, and so many are left
record Counting {R : Type 0} (Is : List ℕ → R → Type 0) (count : ℕ) (start : Place) (left : ℕ) (place : Place) : Type 0 where
  pieces : List R
  starts : StartsWith (Each Is) start pieces place
  counted : length pieces + left ≡ count
  fits : IsBytes place.rest

nothing_yet : {R : Type 0} (Is : List ℕ → R → Type 0) (count : ℕ) (place : Place) → IsBytes place.rest → Counting Is count place count place
nothing_yet Is count place fits = record { pieces = []; starts = record { piece = []; is = refl; parts = refl; moved = omega arith }; counted = omega arith; fits = fits }

one_more : {R : Type 0} (Is : List ℕ → R → Type 0) (count : ℕ) (start : Place) (left : ℕ) (place next : Place) (r : R) → Counting Is count start (suc left) place → StartsWith Is place r next → Counting Is count start left next
one_more Is count start left place next r c s = record {
  pieces = c.pieces ++ r ∷ [];
  starts = starts (Each Is) (c.pieces ++ r ∷ []) (c.starts.piece ++ s.piece) (joined (spanned c.starts) (spanned s)) (Each-push Is c.starts.piece s.piece c.pieces r c.starts.is s.is);
  counted = omega (arith, c.counted, length-append c.pieces (r ∷ []));
  fits = starts-rest Is place next r s c.fits;
}

all_counted : {R : Type 0} (Is : List ℕ → R → Type 0) (count : ℕ) (place start next : Place) → StartsWith (IsNumber 2) place count start → Counting Is count start zero next → (rs : List R) × StartsWith (Counted Is) place rs next
all_counted Is count place start next s c =
    let sized : length c.pieces ≡ count = omega (arith, c.counted) in
    (c.pieces, counted_made (record { count = subst (λ (k : ℕ). StartsWith (IsNumber 2) place k start) (sym sized) s; others = c.starts }))

handlers_shape : (pool : List (Option Constant)) (place : Place) → IsBytes place.rest → Shapes (λ (z : List Handler × Place). (caught : List ℕ) × StartsWith (Counted IsRawHandler) place caught z.1) (counted_at (handler_at pool) place)
unfolding counted_at
handlers_shape pool place fits =
    yields_then (λ (z : ℕ × Place). StartsWith (IsNumber 2) place z.0 z.1) (num_at 2 place) _ (num_yields 2 place fits (λ lt. tt))
    (λ count s. yields_as _ (times (pushed (handler_at pool)) count.0 ([], count.1))
    (times_yield (λ (n : ℕ) (t : List Handler × Place). Counting IsRawHandler count.0 count.1 n t.1) (pushed (handler_at pool))
    (λ n t h. pushed_yields (λ (p : Place). Counting IsRawHandler count.0 count.1 n p) (handler_at pool) t
    (yields_as (λ (z : Handler × Place). Counting IsRawHandler count.0 count.1 n z.1) (handler_at pool t.1) (handler_yields pool t.1 h.fits (λ lt. tt) (λ index p next front spans six v nothing. tt))
    (λ z k. one_more IsRawHandler count.0 count.1 n t.1 z.1 k.0 h k.1)))
    count.0 ([], count.1) (nothing_yet IsRawHandler count.0 count.1 (starts-rest (IsNumber 2) place count.1 count.0 s fits)))
    (λ t c. all_counted IsRawHandler count.0 place count.1 t.1 s c))

skipped_shape : (pool : List (Option Constant)) (count : ℕ) (start : Place) (n : ℕ) (place : Place) → Counting IsRawAttribute count start (suc n) place → Shapes (Counting IsRawAttribute count start n) (skipped_at pool place)
unfolding skipped_at
skipped_shape pool count start n place h =
    yields_then (AttributeRead pool place) (attribute_at pool place) _ (attribute_yields pool place h.fits (λ c. tt) (λ index next v nothing. tt))
    (λ z a. yields_done z.1 (one_more IsRawAttribute count start n place z.1 a.stored h a.starts))

attributes_shape : (pool : List (Option Constant)) (place : Place) → IsBytes place.rest → Shapes (λ (next : Place). (stored : List RawAttribute) × StartsWith (Counted IsRawAttribute) place stored next) (times_at (skipped_at pool) place)
unfolding times_at
attributes_shape pool place fits =
    yields_then (λ (z : ℕ × Place). StartsWith (IsNumber 2) place z.0 z.1) (num_at 2 place) _ (num_yields 2 place fits (λ lt. tt))
    (λ count s. yields_as _ (times (skipped_at pool) count.0 count.1)
    (times_yield (Counting IsRawAttribute count.0 count.1) (skipped_at pool) (λ n t h. skipped_shape pool count.0 count.1 n t h) count.0 count.1 (nothing_yet IsRawAttribute count.0 count.1 (starts-rest (IsNumber 2) place count.1 count.0 s fits)))
    (λ t c. all_counted IsRawAttribute count.0 place count.1 t s c))

-- ---- the instructions

pub instructions_yield : {P : ClassFault → Type 0} {Cut : Type 0} (place : Place) → IsBytes place.rest → Cut → Yields P Cut (λ (z : List ℕ × Place). (length z.0 < 2 ^ 32) × Spans place (big_bytes 4 (length z.0) ++ z.0) z.1) (instructions_at place)
unfolding instructions_at
instructions_yield place fits short =
    yields_then (λ (z : ℕ × Place). StartsWith (IsNumber 4) place z.0 z.1) (num_at 4 place) _ (num_yields 4 place fits (λ lt. short))
    (λ len s. yields_as _ (bytes_at len.0 len.1) (bytes_yield len.0 len.1 (λ lt. short))
    (λ z b. (omega (arith, s.is.1, b.is.1), joined (rewritten (s.is.0 ∙ ap (big_bytes 4) (sym b.is.1)) (spanned s)) (rewritten b.is.0 (spanned b)))))

pub instructions_made : (place p q next : Place) (stack locals : ℕ) (code : List ℕ) (a : StartsWith (IsNumber 2) place stack p) (b : StartsWith (IsNumber 2) p locals q) → length code < 2 ^ 32 → Spans q (big_bytes 4 (length code) ++ code) next
    → StartsWith AreInstructions place code next
instructions_made place p q next stack locals code a b fits c =
    starts AreInstructions code ((a.piece ++ b.piece) ++ (big_bytes 4 (length code) ++ code)) (joined (joined (spanned a) (spanned b)) c)
    (record { bounds = a.piece ++ b.piece; four = omega (arith, length-append a.piece b.piece, (number_sized 2 place stack p a).sized, (number_sized 2 p locals q b).sized); fits = fits; parts = refl })

-- ---- code

-- the parts of code between two places
pub record CodeShape (place : Place) (code : List ℕ) (next : Place) : Type 0 where
  pub instructions : List ℕ
  pub handlers : List ℕ
  pub attributes : List ℕ
  pub caught : List ℕ
  pub stored : List RawAttribute
  pub are_instructions : AreInstructions instructions code
  pub are_handlers : Counted IsRawHandler handlers caught
  pub are_attributes : Counted IsRawAttribute attributes stored
  pub spans : Spans place (instructions ++ (handlers ++ attributes)) next

code_shape : (pool : List (Option Constant)) (place : Place) → IsBytes place.rest → Shapes (λ (z : Code × Place). CodeShape place z.0.bytes z.1) (code_at pool place)
unfolding code_at
code_shape pool place fits =
    yields_then (λ (z : ℕ × Place). StartsWith (IsNumber 2) place z.0 z.1) (num_at 2 place) _ (num_yields 2 place fits (λ lt. tt))
    (λ stack a.
    let fits1 = starts-rest (IsNumber 2) place stack.1 stack.0 a fits in
    yields_then (λ (z : ℕ × Place). StartsWith (IsNumber 2) stack.1 z.0 z.1) (num_at 2 stack.1) _ (num_yields 2 stack.1 fits1 (λ lt. tt))
    (λ locals b.
    let fits2 = starts-rest (IsNumber 2) stack.1 locals.1 locals.0 b fits1 in
    yields_then _ (instructions_at locals.1) _ (instructions_yield locals.1 fits2 tt)
    (λ code c.
    let i = instructions_made place stack.1 locals.1 code.1 stack.0 locals.0 code.0 a b c.0 c.1 in
    let fits3 = starts-rest AreInstructions place code.1 code.0 i fits in
    yields_then _ (counted_at (handler_at pool) code.1) _ (handlers_shape pool code.1 fits3)
    (λ handlers d.
    yields_then _ (times_at (skipped_at pool) handlers.1) _ (attributes_shape pool handlers.1 (starts-rest (Counted IsRawHandler) code.1 handlers.1 d.0 d.1 fits3))
    (λ last e. yields_done (record { max_stack = stack.0; max_locals = locals.0; bytes = code.0; handlers = handlers.0 }, last)
    (record {
      instructions = i.piece;
      handlers = d.1.piece;
      attributes = e.1.piece;
      caught = d.0;
      stored = e.0;
      are_instructions = i.is;
      are_handlers = d.1.is;
      are_attributes = e.1.is;
      spans = joined (spanned i) (joined (spanned d.1) (spanned e.1));
    }))))))

filled_by : (place : Place) (code : Code × Place) → CodeShape place code.0.bytes code.1 → is_filled (Some code) ≡ true → IsFilled place.rest
filled_by place code shape e =
    let p = and_parts (eqb (length code.1.rest) 0) (leb 1 (length code.0.bytes) && leb (length code.0.bytes) 65535) e in
    let q = and_parts (leb 1 (length code.0.bytes)) (leb (length code.0.bytes) 65535) p.1 in
    let nothing : code.1.rest ≡ [] = nil_from_length code.1.rest (eqb-true (length code.1.rest) 0 p.0) in
    record {
      code = code.0.bytes;
      instructions = shape.instructions;
      handlers = shape.handlers;
      attributes = shape.attributes;
      caught = shape.caught;
      stored = shape.stored;
      not_empty = leb-true 1 (length code.0.bytes) q.0;
      short = leb-true (length code.0.bytes) 65535 q.1;
      are_instructions = shape.are_instructions;
      are_handlers = shape.are_handlers;
      are_attributes = shape.are_attributes;
      parts = shape.spans.parts ∙ ap (λ (r : List ℕ). (shape.instructions ++ (shape.handlers ++ shape.attributes)) ++ r) nothing ∙ append-nil (shape.instructions ++ (shape.handlers ++ shape.attributes));
    }

filled_value : (place : Place) (value : Option (Code × Place)) → ((code : Code × Place) → value ≡ Some code → CodeShape place code.0.bytes code.1) → is_filled value ≡ true → IsFilled place.rest
filled_value place None k e = absurd (let wrong = e in cc)
filled_value place (Some code) k e = filled_by place code (k code refl) e

-- what was read to the end fills the attribute
pub fills : (pool : List (Option Constant)) (place : Place) → IsBytes place.rest → is_filled (code_at pool place).value ≡ true → IsFilled place.rest
fills pool place fits e = filled_value place (code_at pool place).value (code_shape pool place fits).value e
