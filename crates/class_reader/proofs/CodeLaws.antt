-- Handlers and code: what passes is in the grammar, and what is in it passes.
use Rattle.std.proofs.Common.{◌≡◌, ℕ, ◌+◌, ◌^◌, ◌<◌, ◌≤◌, Bool, true, false, cond, eqb, leb, ◌&&◌, List, [], ◌∷◌, ◌++◌, length, Option, Some, None, refl, sym, ap, subst, ◌∙◌, append_assoc, arith}
use Rattle.std.proofs.lemmas.Bool.{eqb-true, and_parts, and_from, leb-true, le-leb}
use Rattle.std.proofs.lemmas.List.{append-nil, nil_from_length}
use Rattle.byteorder.specs.Endian.{big_bytes}
use Rattle.class_pool.specs.declared.constant.Constant.{Constant}
use Rattle.class_pool.specs.Place.{Place, IsBytes}
use Rattle.class_pool.specs.Pieces.{Counted, StartsWith}
use Rattle.class_pool.specs.Pool.{class_name_at}
use Rattle.class_pool.proofs.Pieces.{IsNumber}
use Rattle.class_reader.specs.declared.class.Code.{Code}
use Rattle.class_reader.specs.declared.class.Handler.{Handler}
use Rattle.class_reader.specs.declared.fault.ClassFault.{ClassFault}
use Rattle.class_reader.specs.declared.fault.ClassFault.TheVariants.{BadCode}
use Rattle.class_reader.specs.Met.{Met, with_faults, Passes, times_at}
use Rattle.class_reader.specs.ClassReading.{index_faults, skipped_at, catch_faults, catch_of, catch_at, handler_at, instructions_at, code_at, is_filled, code_in, judged}
use Rattle.class_reader.specs.ClassFile.{IsCatch, IsHandler, IsCode, AreAttributes}
use Rattle.class_reader.proofs.MetLaws.{stepped, steps, Spans, spanned, starts, joined, middle_of, second_of_two, rewritten, same_start, IsReader, took, takes_first, takes_last, num_reader, AreSoMany, bytes_reader}
use Rattle.class_reader.proofs.TimesLaws.{counted}
use Rattle.class_reader.proofs.AttributeLaws.{faultless, named, named_faultless, Attributes, attributes_take, attributes_again}

-- ---- the class that is caught

catch_met : (pool : List (Option Constant)) (at k : ℕ) (any : Bool) → eqb k 0 ≡ any → k < 2 ^ 16 → cond any [] (index_faults at k (class_name_at pool k)) ≡ []
    → IsCatch pool (big_bytes 2 k) (cond any None (class_name_at pool k))
catch_met pool at k true e lt none = ap (big_bytes 2) (eqb-true k 0 e)
catch_met pool at k false e lt none =
    let x = named at k (class_name_at pool k) none in
    subst (λ (o : Option (List ℕ)). IsCatch pool (big_bytes 2 k) o) (sym x.1) (k, lt, refl, x.1)

-- the index of a catch
record Catch (pool : List (Option Constant)) (at : ℕ) (bytes : List ℕ) (catch : Option (List ℕ)) : Type 0 where
  index : ℕ
  fits : index < 2 ^ 16
  parts : bytes ≡ big_bytes 2 index
  faultless : catch_faults pool at index ≡ []
  names : catch_of pool index ≡ catch

catch_named : (pool : List (Option Constant)) (at k : ℕ) (any : Bool) (class : List ℕ) → eqb k 0 ≡ any → class_name_at pool k ≡ Some class
    → (cond any [] (index_faults at k (class_name_at pool k)) ≡ []) × (cond any None (class_name_at pool k) ≡ Some class)
catch_named pool at k true class e found =
    absurd (let none : None ≡ class_name_at pool k = ap (class_name_at pool) (sym (eqb-true k 0 e)) in let no = none ∙ found in cc)
catch_named pool at k false class e found = (named_faultless at k (class_name_at pool k) class found, found)

catch_index : (pool : List (Option Constant)) (at : ℕ) (bytes : List ℕ) (catch : Option (List ℕ)) → IsCatch pool bytes catch → Catch pool at bytes catch
catch_index pool at bytes None is = record { index = 0; fits = omega arith; parts = is; faultless = refl; names = refl }
catch_index pool at bytes (Some class) is =
    let n = catch_named pool at is.0 (eqb is.0 0) class refl is.3 in
    record { index = is.0; fits = is.1; parts = is.2; faultless = n.0; names = n.1 }

catch_takes : (pool : List (Option Constant)) (place : Place) (catch : Option (List ℕ)) (next : Place) → IsBytes place.rest → Passes (catch_at pool place) (catch, next) → StartsWith (IsCatch pool) place catch next
unfolding catch_at
catch_takes pool place catch next fits p =
    let n = took (num_reader 2) place _ (catch, next) fits p in
    let none = faultless (catch_faults pool place.at n.value) (catch_of pool n.value, n.next) (catch, next) n.others in
    let is = catch_met pool place.at n.value (eqb n.value 0) refl n.starts.is.1 none.0 in
    let here : StartsWith (IsCatch pool) place (catch_of pool n.value) n.next = starts (IsCatch pool) (catch_of pool n.value) (big_bytes 2 n.value) (rewritten n.starts.is.0 (spanned n.starts)) is in
    subst (λ (z : Option (List ℕ) × Place). StartsWith (IsCatch pool) place z.0 z.1) none.1 here

catch_again : (pool : List (Option Constant)) (place : Place) (catch : Option (List ℕ)) (next : Place) → StartsWith (IsCatch pool) place catch next → Passes (catch_at pool place) (catch, next)
unfolding catch_at
catch_again pool place catch next s =
    let c = catch_index pool place.at s.piece catch s.is in
    takes_last (num_reader 2) c.index s.piece _ (spanned s) (c.parts, c.fits)
    (ap (λ (o : Option (List ℕ)). let z : Option (Option (List ℕ) × Place) = Some (o, next) in z) c.names, c.faultless)

catch_reader : (pool : List (Option Constant)) → IsReader (catch_at pool) (IsCatch pool)
catch_reader pool = record { takes = catch_takes pool; again = catch_again pool }

-- ---- handlers

handler_made : (pool : List (Option Constant)) (place p q r next : Place) (start end target : ℕ) (catch : Option (List ℕ)) → StartsWith (IsNumber 2) place start p → StartsWith (IsNumber 2) p end q
    → StartsWith (IsNumber 2) q target r → StartsWith (IsCatch pool) r catch next → StartsWith (IsHandler pool) place (record { start = start; end = end; handler = target; catch = catch }) next
handler_made pool place p q r next start end target catch a b c d =
    let spans = joined (rewritten a.is.0 (spanned a)) (joined (rewritten b.is.0 (spanned b)) (joined (rewritten c.is.0 (spanned c)) (spanned d))) in
    starts (IsHandler pool) _ _ spans (record { catch = d.piece; start_fits = a.is.1; end_fits = b.is.1; handler_fits = c.is.1; catches = d.is; parts = refl })

handler_takes : (pool : List (Option Constant)) (place : Place) (handler : Handler) (next : Place) → IsBytes place.rest → Passes (handler_at pool place) (handler, next) → StartsWith (IsHandler pool) place handler next
unfolding handler_at
handler_takes pool place handler next fits p =
    let a = took (num_reader 2) place _ (handler, next) fits p in
    let b = took (num_reader 2) a.next _ (handler, next) a.fits a.others in
    let c = took (num_reader 2) b.next _ (handler, next) b.fits b.others in
    let d = took (catch_reader pool) c.next _ (handler, next) c.fits c.others in
    same_start (IsHandler pool) place (record { start = a.value; end = b.value; handler = c.value; catch = d.value }) handler d.next next d.others
    (handler_made pool place a.next b.next c.next d.next a.value b.value c.value d.value a.starts b.starts c.starts d.starts)

handler_again : (pool : List (Option Constant)) (place : Place) (handler : Handler) (next : Place) → StartsWith (IsHandler pool) place handler next → Passes (handler_at pool place) (handler, next)
unfolding handler_at
handler_again pool place handler next s =
    let start : List ℕ = big_bytes 2 handler.start in
    let end : List ℕ = big_bytes 2 handler.end in
    let target : List ℕ = big_bytes 2 handler.handler in
    let w = rewritten s.is.parts (spanned s) in
    let w1 = second_of_two start (end ++ (target ++ s.is.catch)) w in
    let w2 = second_of_two end (target ++ s.is.catch) w1 in
    takes_first (num_reader 2) handler.start start (end ++ (target ++ s.is.catch)) _ w (refl, s.is.start_fits)
    (takes_first (num_reader 2) handler.end end (target ++ s.is.catch) _ w1 (refl, s.is.end_fits)
    (takes_first (num_reader 2) handler.handler target s.is.catch _ w2 (refl, s.is.handler_fits)
    (takes_last (catch_reader pool) handler.catch s.is.catch _ (second_of_two target s.is.catch w2) s.is.catches (refl, refl))))

pub handler_reader : (pool : List (Option Constant)) → IsReader (handler_at pool) (IsHandler pool)
handler_reader pool = record { takes = handler_takes pool; again = handler_again pool }

-- ---- the bytes of the instructions

-- a length of four bytes, and so many
abbrev AreInstructions : List ℕ → List ℕ → Type 0
AreInstructions bytes code = (length code < 2 ^ 32) × (bytes ≡ big_bytes 4 (length code) ++ code)

instructions_take : (place : Place) (code : List ℕ) (next : Place) → IsBytes place.rest → Passes (instructions_at place) (code, next) → StartsWith AreInstructions place code next
unfolding instructions_at
instructions_take place code next fits p =
    let len = took (num_reader 4) place _ (code, next) fits p in
    let body = (bytes_reader len.value).takes len.next code next len.fits len.others in
    let front : Spans place (big_bytes 4 (length code)) len.next = rewritten (len.starts.is.0 ∙ ap (big_bytes 4) (sym body.is.1)) (spanned len.starts) in
    starts AreInstructions code (big_bytes 4 (length code) ++ code) (joined front (rewritten body.is.0 (spanned body))) (omega (arith, len.starts.is.1, body.is.1), refl)

instructions_again : (place : Place) (code : List ℕ) (next : Place) → StartsWith AreInstructions place code next → Passes (instructions_at place) (code, next)
unfolding instructions_at
instructions_again place code next s =
    let len : List ℕ = big_bytes 4 (length code) in
    let w = rewritten s.is.1 (spanned s) in
    takes_first (num_reader 4) (length code) len code _ w (refl, s.is.0)
    ((bytes_reader (length code)).again (middle_of place len code next) code next (starts (AreSoMany (length code)) code code (second_of_two len code w) (refl, refl)))

instructions_reader : IsReader instructions_at AreInstructions
instructions_reader = record { takes = instructions_take; again = instructions_again }

-- ---- code, of whatever length

record IsAnyCode (pool : List (Option Constant)) (bytes : List ℕ) (code : Code) : Type 0 where
  instructions : List ℕ
  handlers : List ℕ
  attributes : List ℕ
  stack_fits : code.max_stack < 2 ^ 16
  locals_fit : code.max_locals < 2 ^ 16
  are_instructions : AreInstructions instructions code.bytes
  are_handlers : Counted (IsHandler pool) handlers code.handlers
  are_attributes : AreAttributes pool attributes
  parts : bytes ≡ big_bytes 2 code.max_stack ++ (big_bytes 2 code.max_locals ++ (instructions ++ (handlers ++ attributes)))

code_made : (pool : List (Option Constant)) (place p q r t next : Place) (stack locals : ℕ) (bytes : List ℕ) (handlers : List Handler) → StartsWith (IsNumber 2) place stack p → StartsWith (IsNumber 2) p locals q
    → StartsWith AreInstructions q bytes r → StartsWith (Counted (IsHandler pool)) r handlers t → Attributes pool t next
    → StartsWith (IsAnyCode pool) place (record { max_stack = stack; max_locals = locals; bytes = bytes; handlers = handlers }) next
code_made pool place p q r t next stack locals bytes handlers a b c d e =
    let spans = joined (rewritten a.is.0 (spanned a)) (joined (rewritten b.is.0 (spanned b)) (joined (spanned c) (joined (spanned d) e.spans))) in
    starts (IsAnyCode pool) _ _ spans
    (record {
      instructions = c.piece;
      handlers = d.piece;
      attributes = e.piece;
      stack_fits = a.is.1;
      locals_fit = b.is.1;
      are_instructions = c.is;
      are_handlers = d.is;
      are_attributes = e.are;
      parts = refl;
    })

code_takes : (pool : List (Option Constant)) (place : Place) (code : Code) (next : Place) → IsBytes place.rest → Passes (code_at pool place) (code, next) → StartsWith (IsAnyCode pool) place code next
unfolding code_at
code_takes pool place code next fits p =
    let a = took (num_reader 2) place _ (code, next) fits p in
    let b = took (num_reader 2) a.next _ (code, next) a.fits a.others in
    let c = took instructions_reader b.next _ (code, next) b.fits b.others in
    let d = took (counted (handler_reader pool)) c.next _ (code, next) c.fits c.others in
    let e = stepped (times_at (skipped_at pool) d.next) _ (code, next) d.others in
    let last = attributes_take pool d.next e.0 d.fits e.1 in
    same_start (IsAnyCode pool) place (record { max_stack = a.value; max_locals = b.value; bytes = c.value; handlers = d.value }) code e.0 next e.2
    (code_made pool place a.next b.next c.next d.next e.0 a.value b.value c.value d.value a.starts b.starts c.starts d.starts last)

code_again : (pool : List (Option Constant)) (place : Place) (code : Code) (next : Place) → StartsWith (IsAnyCode pool) place code next → Passes (code_at pool place) (code, next)
unfolding code_at
code_again pool place code next s =
    let is = s.is in
    let stack : List ℕ = big_bytes 2 code.max_stack in
    let locals : List ℕ = big_bytes 2 code.max_locals in
    let w = rewritten is.parts (spanned s) in
    let w1 = second_of_two stack (locals ++ (is.instructions ++ (is.handlers ++ is.attributes))) w in
    let w2 = second_of_two locals (is.instructions ++ (is.handlers ++ is.attributes)) w1 in
    let w3 = second_of_two is.instructions (is.handlers ++ is.attributes) w2 in
    takes_first (num_reader 2) code.max_stack stack (locals ++ (is.instructions ++ (is.handlers ++ is.attributes))) _ w (refl, is.stack_fits)
    (takes_first (num_reader 2) code.max_locals locals (is.instructions ++ (is.handlers ++ is.attributes)) _ w1 (refl, is.locals_fit)
    (takes_first instructions_reader code.bytes is.instructions (is.handlers ++ is.attributes) _ w2 is.are_instructions
    (takes_first (counted (handler_reader pool)) code.handlers is.handlers is.attributes _ w3 is.are_handlers
    (steps _ (attributes_again pool _ next is.attributes (second_of_two is.handlers is.attributes w3) is.are_attributes) (refl, refl)))))

code_reader : (pool : List (Option Constant)) → IsReader (code_at pool) (IsAnyCode pool)
code_reader pool = record { takes = code_takes pool; again = code_again pool }

-- ---- code that fills its attribute

-- what was judged to be code
record Judged (met : Met (Code × Place)) (found : Option Code) : Type 0 where
  code : Code
  next : Place
  passes : Passes met (code, next)
  is : found ≡ Some code
  filled : is_filled (Some (code, next)) ≡ true

judged_by : (at : ℕ) (faults : List ClassFault) (code : Code × Place) (filled : Bool) (found : Option Code) → is_filled (Some code) ≡ filled
    → Passes (cond filled (with_faults faults (code_in (Some code))) (with_faults (BadCode at ∷ []) None)) found → (faults ≡ []) × (Some code.0 ≡ found) × (is_filled (Some code) ≡ true)
judged_by at faults code true found e p = let f = faultless faults (Some code.0) found p in (f.0, f.1, e)
judged_by at faults code false found e p = absurd (let no = p.1 in cc)

judged_with : (at : ℕ) (faults : List ClassFault) (value : Option (Code × Place)) (found : Option Code)
    → Passes (cond (is_filled value) (with_faults faults (code_in value)) (with_faults (BadCode at ∷ []) None)) found → Judged (record { value = value; faults = faults }) found
judged_with at faults None found p = absurd (let no = p.1 in cc)
judged_with at faults (Some code) found p =
    let j = judged_by at faults code (is_filled (Some code)) found refl p in
    record { code = code.0; next = code.1; passes = (refl, j.0); is = sym j.1; filled = j.2 }

judged_takes : (at : ℕ) (met : Met (Code × Place)) (found : Option Code) → Passes (judged at met) found → Judged met found
judged_takes at met found p = judged_with at met.faults met.value found p

judged_again : (at : ℕ) (met : Met (Code × Place)) (code : Code) (next : Place) → Passes met (code, next) → is_filled (Some (code, next)) ≡ true → Passes (judged at met) (Some code)
judged_again at met code next p filled =
    let goes : Option (Code × Place) → List ClassFault → Type 0 = λ value faults. Passes (cond (is_filled value) (with_faults faults (code_in value)) (with_faults (BadCode at ∷ []) None)) (Some code) in
    let passes : Passes (with_faults [] (Some code)) (Some code) = (refl, refl) in
    let here : goes (Some (code, next)) [] = subst (λ (b : Bool). Passes (cond b (with_faults [] (Some code)) (with_faults (BadCode at ∷ []) None)) (Some code)) (sym filled) passes in
    subst (λ (value : Option (Code × Place)). goes value met.faults) (sym p.0) (subst (λ (faults : List ClassFault). goes (Some (code, next)) faults) (sym p.1) here)

regroup : (a b c d e : List ℕ) → a ++ (b ++ ((c ++ d) ++ e)) ≡ a ++ (b ++ (c ++ (d ++ e)))
regroup a b c d e = ap (λ (t : List ℕ). a ++ (b ++ t)) (append_assoc c d e)

code_bounded : (pool : List (Option Constant)) (bytes : List ℕ) (code : Code) (any : IsAnyCode pool bytes code) → 1 ≤ length code.bytes → length code.bytes ≤ 65535 → IsCode pool bytes code
code_bounded pool bytes code any low high = record {
  handlers = any.handlers;
  attributes = any.attributes;
  stack_fits = any.stack_fits;
  locals_fit = any.locals_fit;
  not_empty = low;
  short = high;
  are_handlers = any.are_handlers;
  are_attributes = any.are_attributes;
  parts = any.parts ∙ ap (λ (t : List ℕ). big_bytes 2 code.max_stack ++ (big_bytes 2 code.max_locals ++ (t ++ (any.handlers ++ any.attributes)))) any.are_instructions.1
      ∙ regroup (big_bytes 2 code.max_stack) (big_bytes 2 code.max_locals) (big_bytes 4 (length code.bytes)) code.bytes (any.handlers ++ any.attributes);
}

code_any : (pool : List (Option Constant)) (bytes : List ℕ) (code : Code) → IsCode pool bytes code → IsAnyCode pool bytes code
code_any pool bytes code is = record {
  instructions = big_bytes 4 (length code.bytes) ++ code.bytes;
  handlers = is.handlers;
  attributes = is.attributes;
  stack_fits = is.stack_fits;
  locals_fit = is.locals_fit;
  are_instructions = (omega (arith, is.short), refl);
  are_handlers = is.are_handlers;
  are_attributes = is.are_attributes;
  parts = is.parts ∙ sym (regroup (big_bytes 2 code.max_stack) (big_bytes 2 code.max_locals) (big_bytes 4 (length code.bytes)) code.bytes (is.handlers ++ is.attributes));
}

-- what is judged to be code is code
pub code_judged : (pool : List (Option Constant)) (at : ℕ) (body : Place) (found : Option Code) → IsBytes body.rest → Passes (judged at (code_at pool body)) found → (code : Code) × (found ≡ Some code) × IsCode pool body.rest code
code_judged pool at body found fits p =
    let j = judged_takes at (code_at pool body) found p in
    let s = code_takes pool body j.code j.next fits j.passes in
    let tests = and_parts (eqb (length j.next.rest) 0) (leb 1 (length j.code.bytes) && leb (length j.code.bytes) 65535) j.filled in
    let bounds = and_parts (leb 1 (length j.code.bytes)) (leb (length j.code.bytes) 65535) tests.1 in
    let none : j.next.rest ≡ [] = nil_from_length j.next.rest (eqb-true (length j.next.rest) 0 tests.0) in
    let whole : s.piece ≡ body.rest = sym (s.parts ∙ ap (λ (t : List ℕ). s.piece ++ t) none ∙ append-nil s.piece) in
    let is = code_bounded pool s.piece j.code s.is (leb-true 1 (length j.code.bytes) bounds.0) (leb-true (length j.code.bytes) 65535 bounds.1) in
    (j.code, j.is, subst (λ (t : List ℕ). IsCode pool t j.code) whole is)

-- code is judged to be code
pub code_rejudged : (pool : List (Option Constant)) (at : ℕ) (body : Place) (code : Code) → IsCode pool body.rest code → Passes (judged at (code_at pool body)) (Some code)
code_rejudged pool at body code is =
    let next : Place = record { at = body.at + length body.rest; rest = [] } in
    let spans : Spans body body.rest next = record { parts = sym (append-nil body.rest); moved = refl } in
    let p = code_again pool body code next (starts (IsAnyCode pool) code body.rest spans (code_any pool body.rest code is)) in
    let bounds = and_from (leb 1 (length code.bytes)) (leb (length code.bytes) 65535) (le-leb 1 (length code.bytes) is.not_empty) (le-leb (length code.bytes) 65535 is.short) in
    judged_again at (code_at pool body) code next p bounds
