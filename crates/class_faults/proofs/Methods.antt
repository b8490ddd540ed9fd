-- Code, methods, fields and what stands behind the pool: each fault that is met is there.
use Rattle.std.proofs.Common.{◌≡◌, ◌⊎◌, ℕ, zero, suc, ◌+◌, Bool, true, false, cond, not, ◌&&◌, ◌||◌, List, [], ◌∷◌, length, Option, None, refl, sym, ap, subst, ◌∙◌, inl, inr, true≢false}
use Rattle.std.specs.List.{AllByRecursion}
use Rattle.std.proofs.lemmas.Bool.{and_parts, not-true}
use Rattle.class_pool.specs.declared.constant.Constant.{Constant}
use Rattle.class_pool.specs.Place.{Place, IsBytes}
use Rattle.class_pool.specs.Pieces.{StartsWith}
use Rattle.class_pool.specs.Pool.{class_name_at}
use Rattle.class_pool.proofs.Pieces.{starts-rest}
use Rattle.class_reader.specs.declared.class.Code.{Code}
use Rattle.class_reader.specs.declared.class.Handler.{Handler}
use Rattle.class_reader.specs.declared.fault.ClassFault.TheVariants.{BadCode}
use Rattle.class_reader.specs.Flags.{is_static}
use Rattle.descriptors.specs.Tests.{describes, is_field}
use Rattle.class_reader.specs.Met.{Met, done, ◌>>=◌, with_faults, num_at, times, pushed, counted_at, times_at}
use Rattle.class_reader.specs.ClassReading.{fault_if, Stored as Read, Given, attribute_at, skipped_at, handler_at, instructions_at, code_at, is_filled, code_in, judged, given_at, keeps_code, given_with, method_attribute_at, Members as Pairs, has_code, or_empty, member_at, field_at, code_given_at, method_at, members_at, Rest, names_at, name_at, rest_at}
use Rattle.class_faults.specs.Pieces.{IsNumber, RawAttribute, IsRawAttribute, names_code, AreInstructions, IsFilled}
use Rattle.class_faults.specs.Parts.{Kind, Fields, Methods, Member, member_of, WantsCode, OfClass, OfMember, OfCode, Names, MemberCount, Members, AttributeCount, Attributes, HandlerCount, Handlers, Stands, then_fields, so_many_members, so_many_attributes, next_attribute, behind_member, then_methods, then_attributes, in_code, so_many_handlers, next_handler, then_code_attributes}
use Rattle.class_faults.specs.Faults.{IsCutFile, of_catch, StandsAt}
use Rattle.class_faults.proofs.Yields.{Yields, yields_done, yields_with, yields_then, yields_as, num_yields, times_yield, pushed_yields}
use Rattle.class_faults.proofs.Heads.{read_of, AttributeRead}
use Rattle.class_faults.proofs.Bytes.{body_fits, stands_fit}
use Rattle.class_faults.proofs.Shapes.{handler_yields, instructions_yield, instructions_made, fills}
use Rattle.class_faults.proofs.Refills.{refills}
use Rattle.class_faults.proofs.Told.{Tells, cut_part, bad_index, names_tell, interfaces_tell, attribute_tells, AttributesAt, attributes_tell, told_if, MemberRead, member_tells}
use Rattle.class_faults.proofs.Descriptors.{no_field, no_method}

-- ---- inside code

-- faults alone, wherever reading ends
abbrev TellsInside : {A : Type 0} → List ℕ → (A → Type 0) → Met A → Type 0
TellsInside bytes K met = Yields (StandsAt bytes) (Unit {0}) K met

inside_of : {A : Type 0} {bytes : List ℕ} {K : A → Type 0} (met : Met A) → Tells bytes K met → TellsInside bytes K met
inside_of met y = record { faults = y.faults; value = y.value; cut = λ e. tt }

handlers_tell : (bytes : List ℕ) (pool : List (Option Constant)) (place : Place) → IsBytes bytes → Stands bytes pool HandlerCount place → Tells bytes (λ (z : List Handler × Place). Stands bytes pool (Handlers zero) z.1) (counted_at (handler_at pool) place)
unfolding counted_at
handlers_tell bytes pool place fits s =
    yields_then (λ (z : ℕ × Place). StartsWith (IsNumber 2) place z.0 z.1) (num_at 2 place) _ (num_yields 2 place (stands_fit bytes pool HandlerCount place fits s) (λ lt. cut_part bytes pool HandlerCount place s lt))
    (λ count a. times_yield (λ (n : ℕ) (t : List Handler × Place). Stands bytes pool (Handlers n) t.1) (pushed (handler_at pool))
    (λ n t h. pushed_yields (λ (p : Place). Stands bytes pool (Handlers n) p) (handler_at pool) t
    (yields_as (λ (z : Handler × Place). Stands bytes pool (Handlers n) z.1) (handler_at pool t.1)
    (handler_yields pool t.1 (stands_fit bytes pool (Handlers (suc n)) t.1 fits h) (λ lt. cut_part bytes pool (Handlers (suc n)) t.1 h lt)
    (λ index p next front spans six v nothing. bad_index bytes pool (Handlers (suc n)) t.1 p next 6 index _ front h of_catch spans six v nothing))
    (λ z k. next_handler h k.1))) count.0 ([], count.1) (so_many_handlers s a))

-- a Code attribute that is the first of a method that wants one
record FirstCode (bytes : List ℕ) (pool : List (Option Constant)) (m : Member) (n : ℕ) (place next : Place) (stored : RawAttribute) : Type 0 where
  stands : Stands bytes pool (Attributes (OfMember m) false (suc n)) place
  wants : WantsCode m
  starts : StartsWith IsRawAttribute place stored next
  named : names_code pool stored.name ≡ true

abbrev body_of : Place → RawAttribute → Place
body_of place stored = record { at = place.at + 6; rest = stored.body }

handlers_stand : (bytes : List ℕ) (pool : List (Option Constant)) (m : Member) (n : ℕ) (place next : Place) (stored : RawAttribute) (code : List ℕ) (p : Place) → FirstCode bytes pool m n place next stored → IsFilled stored.body
    → StartsWith AreInstructions (body_of place stored) code p → Stands bytes pool HandlerCount p
handlers_stand bytes pool m n place next stored code p first filled i =
    let at : place.at + 6 + length i.piece ≡ p.at = sym i.moved in
    subst (λ (k : ℕ). Stands bytes pool HandlerCount (record { at = k; rest = p.rest })) at (in_code first.stands first.wants first.starts first.named filled i.is i.parts)

code_tells : (bytes : List ℕ) (pool : List (Option Constant)) (m : Member) (n : ℕ) (place next : Place) (stored : RawAttribute) → IsBytes bytes → FirstCode bytes pool m n place next stored → IsFilled stored.body
    → TellsInside bytes (λ (z : Code × Place). Unit {0}) (code_at pool (body_of place stored))
unfolding code_at
code_tells bytes pool m n place next stored fits first filled =
    let start : Place = body_of place stored in
    let fits0 = body_fits place next stored first.starts (stands_fit bytes pool _ place fits first.stands) in
    yields_then (λ (z : ℕ × Place). StartsWith (IsNumber 2) start z.0 z.1) (num_at 2 start) _ (num_yields 2 start fits0 (λ lt. tt))
    (λ stack a.
    let fits1 = starts-rest (IsNumber 2) start stack.1 stack.0 a fits0 in
    yields_then (λ (z : ℕ × Place). StartsWith (IsNumber 2) stack.1 z.0 z.1) (num_at 2 stack.1) _ (num_yields 2 stack.1 fits1 (λ lt. tt))
    (λ locals b.
    yields_then _ (instructions_at locals.1) _ (instructions_yield locals.1 (starts-rest (IsNumber 2) stack.1 locals.1 locals.0 b fits1) tt)
    (λ code c.
    let i = instructions_made start stack.1 locals.1 code.1 stack.0 locals.0 code.0 a b c.0 c.1 in
    let s = handlers_stand bytes pool m n place next stored code.0 code.1 first filled i in
    yields_then (λ (z : List Handler × Place). Stands bytes pool (Handlers zero) z.1) (counted_at (handler_at pool) code.1) _ (inside_of (counted_at (handler_at pool) code.1) (handlers_tell bytes pool code.1 fits s))
    (λ handlers d.
    yields_then (AttributesAt bytes pool OfCode zero) (times_at (skipped_at pool) handlers.1) _
    (inside_of (times_at (skipped_at pool) handlers.1) (attributes_tell bytes pool OfCode handlers.1 fits (then_code_attributes d)))
    (λ last e. yields_done (record { max_stack = stack.0; max_locals = locals.0; bytes = code.0; handlers = handlers.0 }, last) tt)))))

-- ---- a Code attribute

-- a Code attribute of a method, which wants code where it is allowed
record SomeCode (bytes : List ℕ) (pool : List (Option Constant)) (m : Member) (allowed met : Bool) (n : ℕ) (place next : Place) (stored : RawAttribute) : Type 0 where
  stands : Stands bytes pool (Attributes (OfMember m) met (suc n)) place
  is_method : m.kind ≡ Methods
  may : has_code m.flags ≡ allowed
  starts : StartsWith IsRawAttribute place stored next
  named : names_code pool stored.name ≡ true

bad_code : (bytes : List ℕ) (pool : List (Option Constant)) (m : Member) (allowed met : Bool) (n : ℕ) (place next : Place) (stored : RawAttribute) → SomeCode bytes pool m allowed met n place next stored
    → (WantsCode m → ⊥) ⊎ ((met ≡ true) ⊎ (IsFilled stored.body → ⊥)) → StandsAt bytes (BadCode place.at)
bad_code bytes pool m allowed met n place next stored c wrong =
    inr (record { pool = pool; method = m; met = met; left = n; place = place; stands = c.stands; is_method = c.is_method; next = next; stored = stored; starts = c.starts; named = c.named; wrong = wrong; here = refl })

first_code : (bytes : List ℕ) (pool : List (Option Constant)) (m : Member) (allowed met : Bool) (n : ℕ) (place next : Place) (stored : RawAttribute) → SomeCode bytes pool m allowed met n place next stored → allowed ≡ true → met ≡ false
    → FirstCode bytes pool m n place next stored
first_code bytes pool m allowed met n place next stored c a e = record {
  stands = subst (λ (b : Bool). Stands bytes pool (Attributes (OfMember m) b (suc n)) place) e c.stands;
  wants = (c.is_method, c.may ∙ a);
  starts = c.starts;
  named = c.named;
}

judged_by : (bytes : List ℕ) (at : ℕ) (filled : Bool) (met : Met (Code × Place)) → (filled ≡ true → AllByRecursion (StandsAt bytes) met.faults) → (filled ≡ false → StandsAt bytes (BadCode at))
    → Tells bytes (λ (o : Option Code). Unit {0}) (cond filled (with_faults met.faults (code_in met.value)) (with_faults (BadCode at ∷ []) None))
judged_by bytes at true met h k = yields_with met.faults (code_in met.value) (h refl) tt
judged_by bytes at false met h k = yields_with (BadCode at ∷ []) None (k refl, tt) tt

code_judged : (bytes : List ℕ) (pool : List (Option Constant)) (m : Member) (allowed met : Bool) (n : ℕ) (place next : Place) (stored : RawAttribute) → IsBytes bytes → SomeCode bytes pool m allowed met n place next stored
    → allowed ≡ true → met ≡ false → Tells bytes (λ (o : Option Code). Unit {0}) (judged place.at (code_at pool (body_of place stored)))
code_judged bytes pool m allowed met n place next stored fits c a e =
    let first = first_code bytes pool m allowed met n place next stored c a e in
    let fits0 = body_fits place next stored c.starts (stands_fit bytes pool _ place fits c.stands) in
    let read : Met (Code × Place) = code_at pool (body_of place stored) in
    judged_by bytes place.at (is_filled read.value) read
    (λ yes. (code_tells bytes pool m n place next stored fits first (fills pool (body_of place stored) fits0 yes)).faults)
    (λ not_so. bad_code bytes pool m allowed met n place next stored c (inr (inr (λ filled. true≢false (sym (refills pool (body_of place stored) filled) ∙ not_so)))))

not_first : (allowed met : Bool) → (allowed && not met) ≡ false → (allowed ≡ false) ⊎ (met ≡ true)
not_first true true e = inr refl
not_first true false e = absurd (true≢false e)
not_first false met e = inl refl

wants_none : (m : Member) → has_code m.flags ≡ false → WantsCode m → ⊥
wants_none m e w = true≢false (sym w.1 ∙ e)

given_by : (bytes : List ℕ) (pool : List (Option Constant)) (m : Member) (allowed met first : Bool) (n : ℕ) (place next : Place) (stored : RawAttribute) → IsBytes bytes → SomeCode bytes pool m allowed met n place next stored → (allowed && not met) ≡ first
    → Tells bytes (λ (o : Option Code). Unit {0}) (cond first (judged place.at (code_at pool (body_of place stored))) (with_faults (BadCode place.at ∷ []) None))
given_by bytes pool m allowed met true n place next stored fits c e =
    let both = and_parts allowed (not met) e in
    code_judged bytes pool m allowed met n place next stored fits c both.0 (not-true met both.1)
given_by bytes pool m allowed met false n place next stored fits c e =
    yields_with (BadCode place.at ∷ []) None (
      elim (not_first allowed met e) [
        | inl none ↦ bad_code bytes pool m allowed met n place next stored c (inl (wants_none m (c.may ∙ none)))
        | inr again ↦ bad_code bytes pool m allowed met n place next stored c (inr (inl again))
      ],
      tt,
    ) tt

given_tells : (bytes : List ℕ) (pool : List (Option Constant)) (m : Member) (allowed met : Bool) (n : ℕ) (place next : Place) (stored : RawAttribute) → IsBytes bytes → SomeCode bytes pool m allowed met n place next stored
    → Tells bytes (λ (o : Option Code). Unit {0}) (given_at allowed pool met (read_of pool place stored))
unfolding given_at
given_tells bytes pool m allowed met n place next stored fits c = given_by bytes pool m allowed met (allowed && not met) n place next stored fits c refl

-- ---- the attributes of a method

or_true : (b : Bool) → true ≡ (b || true)
or_true true = refl
or_true false = refl

or_false : (b : Bool) → b ≡ (b || false)
or_false true = refl
or_false false = refl

-- an attribute of a method
record SomeAttribute (bytes : List ℕ) (pool : List (Option Constant)) (m : Member) (allowed met : Bool) (n : ℕ) (place next : Place) (stored : RawAttribute) : Type 0 where
  stands : Stands bytes pool (Attributes (OfMember m) met (suc n)) place
  is_method : m.kind ≡ Methods
  may : has_code m.flags ≡ allowed
  starts : StartsWith IsRawAttribute place stored next

with_given : (bytes : List ℕ) (pool : List (Option Constant)) (m : Member) (allowed : Bool) (given : Given) (named : Bool) (n : ℕ) (place next : Place) (stored : RawAttribute) → IsBytes bytes
    → SomeAttribute bytes pool m allowed given.met n place next stored → names_code pool stored.name ≡ named
    → Yields (StandsAt bytes) (IsCutFile bytes) (λ (g : Given). g.met ≡ (given.met || named)) (cond named (given_at allowed pool given.met (read_of pool place stored) >>= (λ code. done (record { met = true; code = keeps_code given.code code }))) (done given))
with_given bytes pool m allowed given true n place next stored fits a e =
    yields_then (λ (o : Option Code). Unit {0}) (given_at allowed pool given.met (read_of pool place stored)) _
    (given_tells bytes pool m allowed given.met n place next stored fits (record { stands = a.stands; is_method = a.is_method; may = a.may; starts = a.starts; named = e }))
    (λ code k. yields_done (record { met = true; code = keeps_code given.code code }) (or_true given.met))
with_given bytes pool m allowed given false n place next stored fits a e = yields_done given (or_false given.met)

given_with_tells : (bytes : List ℕ) (pool : List (Option Constant)) (m : Member) (allowed : Bool) (given : Given) (n : ℕ) (place next : Place) (stored : RawAttribute) → IsBytes bytes → SomeAttribute bytes pool m allowed given.met n place next stored
    → Tells bytes (λ (g : Given). g.met ≡ (given.met || names_code pool stored.name)) (given_with allowed pool given (read_of pool place stored))
unfolding given_with
given_with_tells bytes pool m allowed given n place next stored fits a = with_given bytes pool m allowed given (names_code pool stored.name) n place next stored fits a refl

-- attributes of a method from here on
abbrev GivenAt : List ℕ → List (Option Constant) → Member → ℕ → Given × Place → Type 0
GivenAt bytes pool m n s = Stands bytes pool (Attributes (OfMember m) s.0.met n) s.1

method_attribute_tells : (bytes : List ℕ) (pool : List (Option Constant)) (m : Member) (allowed : Bool) (n : ℕ) (s : Given × Place) → IsBytes bytes → m.kind ≡ Methods → has_code m.flags ≡ allowed → GivenAt bytes pool m (suc n) s
    → Tells bytes (GivenAt bytes pool m n) (method_attribute_at allowed pool s)
unfolding method_attribute_at
method_attribute_tells bytes pool m allowed n s fits is_method may h =
    yields_then (AttributeRead pool s.1) (attribute_at pool s.1) _ (attribute_tells bytes pool (OfMember m) s.0.met n s.1 fits h)
    (λ z a.
    let known : SomeAttribute bytes pool m allowed s.0.met n s.1 z.1 a.stored = record { stands = h; is_method = is_method; may = may; starts = a.starts } in
    let given : Tells bytes (λ (g : Given). g.met ≡ (s.0.met || names_code pool a.stored.name)) (given_with allowed pool s.0 z.0) =
    subst (λ (r : Read). Tells bytes (λ (g : Given). g.met ≡ (s.0.met || names_code pool a.stored.name)) (given_with allowed pool s.0 r)) (sym a.same) (given_with_tells bytes pool m allowed s.0 n s.1 z.1 a.stored fits known) in
    yields_then (λ (g : Given). g.met ≡ (s.0.met || names_code pool a.stored.name)) (given_with allowed pool s.0 z.0) _ given
    (λ g e. yields_done (g, z.1) (subst (λ (b : Bool). Stands bytes pool (Attributes (OfMember m) b n) z.1) (sym e) (next_attribute h a.starts))))

lacks_code : (bytes : List ℕ) (pool : List (Option Constant)) (m : Member) (allowed : Bool) (s : Given × Place) → m.kind ≡ Methods → has_code m.flags ≡ allowed → GivenAt bytes pool m zero s → (allowed && not s.0.met) ≡ true → StandsAt bytes (BadCode m.at)
lacks_code bytes pool m allowed s is_method may h e =
    let both = and_parts allowed (not s.0.met) e in
    inl (record {
      pool = pool;
      method = m;
      place = s.1;
      stands = subst (λ (b : Bool). Stands bytes pool (Attributes (OfMember m) b zero) s.1) (not-true s.0.met both.1) h;
      wants = (is_method, may ∙ both.0);
      here = refl;
    })

code_given_tells : (bytes : List ℕ) (pool : List (Option Constant)) (m : Member) (allowed : Bool) (place : Place) → IsBytes bytes → m.kind ≡ Methods → has_code m.flags ≡ allowed → Stands bytes pool (AttributeCount (OfMember m)) place
    → Tells bytes (λ (z : Option Code × Place). AttributesAt bytes pool (OfMember m) zero z.1) (code_given_at m.at allowed pool place)
unfolding code_given_at
code_given_tells bytes pool m allowed place fits is_method may s =
    yields_then (λ (z : ℕ × Place). StartsWith (IsNumber 2) place z.0 z.1) (num_at 2 place) _ (num_yields 2 place (stands_fit bytes pool _ place fits s) (λ lt. cut_part bytes pool (AttributeCount (OfMember m)) place s lt))
    (λ count a. yields_then (GivenAt bytes pool m zero) (times (method_attribute_at allowed pool) count.0 (record { met = false; code = None }, count.1)) _
    (times_yield (GivenAt bytes pool m) (method_attribute_at allowed pool) (λ n t h. method_attribute_tells bytes pool m allowed n t fits is_method may h) count.0 (record { met = false; code = None }, count.1) (so_many_attributes s a))
    (λ given h. yields_with (fault_if (allowed && not given.0.met) (BadCode m.at)) (given.0.code, given.1)
    (told_if bytes (allowed && not given.0.met) (BadCode m.at) (λ e. lacks_code bytes pool m allowed given is_method may h e)) (given.0.met, h)))

-- ---- fields and methods

-- members from here on, behind others
abbrev MembersAt : {A : Type 0} → List ℕ → List (Option Constant) → Kind → ℕ → A × (Pairs × Place) → Type 0
MembersAt bytes pool kind n z = Stands bytes pool (Members kind z.1.0 n) z.1.1

field_tells : (bytes : List ℕ) (pool : List (Option Constant)) (n : ℕ) (s : Pairs × Place) → IsBytes bytes → Stands bytes pool (Members Fields s.0 (suc n)) s.1 → Tells bytes (MembersAt bytes pool Fields n) (field_at pool s)
unfolding field_at
field_tells bytes pool n s fits h =
    yields_then (MemberRead bytes pool Fields n s) (member_at (λ flags. is_field) pool s) _ (member_tells bytes pool Fields (λ flags. is_field) n s fits no_field h)
    (λ z m. yields_then (AttributesAt bytes pool (OfMember (member_of pool Fields s.0 n s.1.at m.head)) zero) (times_at (skipped_at pool) z.2) _ (attributes_tell bytes pool _ z.2 fits m.stands)
    (λ last a. yields_done (record { flags = z.0.flags; name = or_empty z.0.name; desc = or_empty z.0.desc }, (z.1, last))
    (subst (λ (ps : Pairs). Stands bytes pool (Members Fields ps n) last) (sym m.pairs) (behind_member a.1))))

method_tells : (bytes : List ℕ) (pool : List (Option Constant)) (n : ℕ) (s : Pairs × Place) → IsBytes bytes → Stands bytes pool (Members Methods s.0 (suc n)) s.1 → Tells bytes (MembersAt bytes pool Methods n) (method_at pool s)
unfolding method_at
method_tells bytes pool n s fits h =
    yields_then (MemberRead bytes pool Methods n s) (member_at (λ flags. describes (is_static flags)) pool s) _ (member_tells bytes pool Methods (λ flags. describes (is_static flags)) n s fits no_method h)
    (λ z m.
    let own : Member = member_of pool Methods s.0 n s.1.at m.head in
    yields_then (λ (c : Option Code × Place). AttributesAt bytes pool (OfMember own) zero c.1) (code_given_at s.1.at (has_code z.0.flags) pool z.2) _
    (code_given_tells bytes pool own (has_code z.0.flags) z.2 fits refl (ap has_code (sym m.flags)) m.stands)
    (λ code a. yields_done (record { flags = z.0.flags; name = or_empty z.0.name; desc = or_empty z.0.desc; code = code.0 }, (z.1, code.1))
    (subst (λ (ps : Pairs). Stands bytes pool (Members Methods ps n) code.1) (sym m.pairs) (behind_member a.1))))

members_tell : {A : Type 0} (bytes : List ℕ) (pool : List (Option Constant)) (kind : Kind) (read : Pairs × Place → Met (A × (Pairs × Place))) (place : Place) → IsBytes bytes
    → ((n : ℕ) (s : Pairs × Place) → Stands bytes pool (Members kind s.0 (suc n)) s.1 → Tells bytes (MembersAt bytes pool kind n) (read s)) → Stands bytes pool (MemberCount kind) place
    → Tells bytes (λ (z : List A × Place). (before : Pairs) × Stands bytes pool (Members kind before zero) z.1) (members_at read place)
unfolding members_at
members_tell {A} bytes pool kind read place fits one s =
    yields_then (λ (z : ℕ × Place). StartsWith (IsNumber 2) place z.0 z.1) (num_at 2 place) _ (num_yields 2 place (stands_fit bytes pool (MemberCount kind) place fits s) (λ lt. cut_part bytes pool (MemberCount kind) place s lt))
    (λ count a. yields_then (MembersAt bytes pool kind zero) (times (pushed {A = A} {S = Pairs × Place} read) count.0 ([], ([], count.1))) _
    (times_yield (MembersAt bytes pool kind) (pushed {A = A} {S = Pairs × Place} read)
    (λ n t h. pushed_yields (λ (p : Pairs × Place). Stands bytes pool (Members kind p.0 n) p.1) read t (one n t.1 h)) count.0 ([], ([], count.1)) (so_many_members s a))
    (λ all h. yields_done (all.0, all.1.1) (all.1.0, h)))

-- ---- behind the pool

pub rest_tells : (bytes : List ℕ) (pool : List (Option Constant)) (place : Place) → IsBytes bytes → Stands bytes pool Names place → Tells bytes (λ (z : Rest × Place). AttributesAt bytes pool OfClass zero z.1) (rest_at pool place)
unfolding rest_at
rest_tells bytes pool place fits s =
    yields_then _ (names_at pool place) _ (names_tell bytes pool place fits s)
    (λ names a. yields_then _ (counted_at (name_at (class_name_at pool)) names.1) _ (interfaces_tell bytes pool names.1 fits a)
    (λ interfaces b. yields_then _ (members_at (field_at pool) interfaces.1) _ (members_tell bytes pool Fields (field_at pool) interfaces.1 fits (λ n t h. field_tells bytes pool n t fits h) (then_fields b))
    (λ fields c. yields_then _ (members_at (method_at pool) fields.1) _ (members_tell bytes pool Methods (method_at pool) fields.1 fits (λ n t h. method_tells bytes pool n t fits h) (then_methods c.1))
    (λ methods d. yields_then (AttributesAt bytes pool OfClass zero) (times_at (skipped_at pool) methods.1) _ (attributes_tell bytes pool OfClass methods.1 fits (then_attributes d.1))
    (λ last e. yields_done _ e)))))
