-- The verdict: the class of the grammar, or the first fault.
use Rattle.std.proofs.Common.{◌≡◌, ◌≢◌, ◌⊎◌, ◌↔◌, ℕ, ◌+◌, Bool, true, false, cond, eqb, List, [], ◌∷◌, ◌++◌, length, Option, Some, None, Result, Ok, Err, refl, sym, ap, subst, ◌∙◌, append_assoc, inl, inr}
use Rattle.std.specs.Prelude.{codes}
use Rattle.std.specs.Str.{bytes_eq}
use Rattle.std.proofs.lemmas.Bool.{eqb-true, ne_eqb, false_from_ne_true, false≢true}
use Rattle.std.proofs.lemmas.List.{append-nil, nil_from_length}
use Rattle.std.proofs.lemmas.Slice.Eq.{bytes_eq-Decides}
use Rattle.byteorder.specs.Endian.{big_bytes}
use Rattle.class_pool.specs.declared.constant.Constant.{Constant}
use Rattle.class_pool.specs.declared.fault.PoolFault.{PoolFault}
use Rattle.class_pool.specs.Place.{Place, IsBytes}
use Rattle.class_pool.specs.Pieces.{StartsWith}
use Rattle.class_pool.specs.Pool.{IsPool}
use Rattle.class_pool.specs.PoolReading.{pool_at}
use Rattle.class_pool.proofs.Pieces.{starts-rest}
use Rattle.class_pool.proofs.PoolFaults.{pool_takes, pool_again, first_read, first_again as pool_fault_again}
use Rattle.class_reader.specs.declared.class.ClassRecord.{ClassRecord}
use Rattle.class_reader.specs.declared.fault.ClassFault.{ClassFault}
use Rattle.class_reader.specs.declared.fault.ClassFault.TheVariants.{Short, Reserved, Trailing}
use Rattle.class_reader.specs.Faults.{fault_of, IsFirst, first_with}
use Rattle.class_reader.specs.Met.{Met, Passes, if_cut, all_faults}
use Rattle.class_reader.specs.ClassReading.{Rest, head_at, rest_at}
use Rattle.class_reader.specs.ClassFile.{AreDistinct, IsClassFile}
use Rattle.class_reader.specs.FirstFault.{start_of, HasPool, HasRest, IsFirstFault, in_head, in_pool, in_rest, built_in, goes_past, IsDecided}
use Rattle.class_reader.specs.Verdict.{◌>>=◌, settled_by, settled, in_class, class_with, verdict}
use Rattle.class_reader.proofs.FirstOf.{none_kept, none_is_kept, first_is, first_again}
use Rattle.class_reader.proofs.MetLaws.{both_empty, Spans, spanned, starts, joined, middle_of, first_of_two, second_of_two, rewritten}
use Rattle.class_reader.proofs.MemberLaws.{pairs_of_fields, pairs_of_methods}
use Rattle.class_reader.proofs.ClassLaws.{IsFileHead, head_reader, IsRest, rest_reader}

-- ---- answers

abbrev answers : {A : Type 0} → A → Result A ClassFault
answers x = Ok x

abbrev fails : {A : Type 0} → ClassFault → Result A ClassFault
fails fault = Err fault

went : {A B : Type 0} (r : Result A ClassFault) (f : A → Result B ClassFault) (y : B) → (r >>= f) ≡ Ok y → (x : A) × (r ≡ Ok x) × (f x ≡ Ok y)
went (Ok x) f y e = (x, refl, e)
went (Err d) f y e = absurd cc

failed : {A B : Type 0} (r : Result A ClassFault) (f : A → Result B ClassFault) (d : ClassFault) → (r >>= f) ≡ Err d → (r ≡ Err d) ⊎ ((x : A) × (r ≡ Ok x) × (f x ≡ Err d))
failed (Ok x) f d e = inr (x, refl, e)
failed (Err c) f d e = inl cc

goes : {A B : Type 0} {r : Result A ClassFault} {x : A} {y : Result B ClassFault} (f : A → Result B ClassFault) → r ≡ Ok x → f x ≡ y → (r >>= f) ≡ y
goes {A} f e h = ap (λ (o : Result A ClassFault). o >>= f) e ∙ h

ends : {A B : Type 0} {r : Result A ClassFault} (f : A → Result B ClassFault) (d : ClassFault) → r ≡ Err d → (r >>= f) ≡ Err d
ends {A} f d e = ap (λ (o : Result A ClassFault). o >>= f) e

answer_is : {A : Type 0} (x y : A) → answers x ≡ answers y → x ≡ y
answer_is x y e = cc

fault_is : {A : Type 0} (c d : ClassFault) → fails {A = A} c ≡ fails {A = A} d → c ≡ d
fault_is c d e = cc

-- ---- what was read, or the first fault

settled_ok : {A : Type 0} (end : ℕ) (value : Option A) (faults : List ClassFault) (kept : Option ClassFault) (x : A) → first_with None (faults ++ if_cut end value) ≡ kept → settled_by end value kept ≡ Ok x
    → (value ≡ Some x) × (faults ≡ [])
settled_ok end value faults (Some f) x k e = absurd cc
settled_ok end None faults None x k e = absurd cc
settled_ok end (Some y) faults None x k e = let same = answer_is y x e in (ap (λ z. Some z) same, (both_empty faults [] (none_kept (faults ++ []) k)).0)

passes_settled : {A : Type 0} (end : ℕ) (met : Met A) (x : A) → settled end met ≡ Ok x → Passes met x
passes_settled end met x e = settled_ok end met.value met.faults (first_with None (all_faults end met)) x refl e

settled_passes : {A : Type 0} (end : ℕ) (met : Met A) (x : A) → Passes met x → settled end met ≡ Ok x
settled_passes {A} end met x p =
    let goes : Option A → List ClassFault → Type 0 = λ value faults. settled_by end value (first_with None (faults ++ if_cut end value)) ≡ Ok x in
    let here : goes (Some x) [] = ap (settled_by end (Some x)) (none_is_kept [] refl) in
    subst (λ (value : Option A). goes value met.faults) (sym p.0) (subst (λ (faults : List ClassFault). goes (Some x) faults) (sym p.1) here)

settled_err : {A : Type 0} (end : ℕ) (value : Option A) (all : List ClassFault) (faults : List ClassFault) (kept : Option ClassFault) (d : ClassFault) → all ≡ faults ++ if_cut end value → first_with None all ≡ kept
    → settled_by end value kept ≡ Err d → IsFirst all d
settled_err {A} end value all faults (Some f) d parts k e = first_is all d (k ∙ ap (λ (z : ClassFault). Some z) (fault_is {A = A} f d e))
settled_err end (Some y) all faults None d parts k e = absurd cc
settled_err end None all faults None d parts k e = absurd (let none = (both_empty faults (Short end ∷ []) (sym parts ∙ none_kept all k)).1 in cc)

first_settled : {A : Type 0} (end : ℕ) (met : Met A) (d : ClassFault) → settled end met ≡ Err d → IsFirst (all_faults end met) d
first_settled end met d e = settled_err end met.value (all_faults end met) met.faults (first_with None (all_faults end met)) d refl refl e

settled_first : {A : Type 0} (end : ℕ) (met : Met A) (d : ClassFault) → IsFirst (all_faults end met) d → settled end met ≡ Err d
settled_first end met d is = ap (settled_by end met.value) (first_again (all_faults end met) d is)

-- ---- the pool

pool_ok : {A : Type 0} (r : Result A PoolFault) (x : A) → in_class r ≡ Ok x → r ≡ Ok x
pool_ok (Ok y) x e = cc
pool_ok (Err d) x e = absurd cc

pool_err : {A : Type 0} (r : Result A PoolFault) (d : ClassFault) → in_class r ≡ Err d → (f : PoolFault) × (r ≡ Err f) × (fault_of f ≡ d)
pool_err (Ok y) d e = absurd cc
pool_err {A} (Err f) d e = (f, refl, fault_is {A = A} (fault_of f) d e)

-- ---- the parts of the file

abbrev object : List ℕ
object = codes "java/lang/Object"

abbrev class_of : ℕ → List (Option Constant) → Rest → ClassRecord
class_of major pool rest =
    record { major = major; flags = rest.flags; name = rest.name; super_name = Some rest.super_name; interfaces = rest.interfaces; fields = rest.fields; methods = rest.methods; pool = pool }

-- the class, where it isn't built in and ends the file
abbrev ended : Bool → Bool → ℕ → List (Option Constant) → ℕ → Rest × Place → Result ClassRecord ClassFault
ended reserved whole major pool this rest = cond reserved (fails (Reserved this)) (cond whole (answers (class_of major pool rest.0)) (fails (Trailing rest.1.at)))

ended_ok : (reserved whole : Bool) (major : ℕ) (pool : List (Option Constant)) (this : ℕ) (rest : Rest × Place) (c : ClassRecord) → ended reserved whole major pool this rest ≡ Ok c
    → (reserved ≡ false) × (whole ≡ true) × (class_of major pool rest.0 ≡ c)
ended_ok true whole major pool this rest c e = absurd cc
ended_ok false true major pool this rest c e = (refl, refl, answer_is (class_of major pool rest.0) c e)
ended_ok false false major pool this rest c e = absurd cc

ended_err : (reserved whole : Bool) (major : ℕ) (pool : List (Option Constant)) (this : ℕ) (rest : Rest × Place) (d : ClassFault) → ended reserved whole major pool this rest ≡ Err d
    → ((reserved ≡ true) × (Reserved this ≡ d)) ⊎ ((reserved ≡ false) × (whole ≡ false) × (Trailing rest.1.at ≡ d))
ended_err true whole major pool this rest d e = inl (refl, fault_is {A = ClassRecord} (Reserved this) d e)
ended_err false true major pool this rest d e = absurd cc
ended_err false false major pool this rest d e = inr (refl, refl, fault_is {A = ClassRecord} (Trailing rest.1.at) d e)

not_object : (name : List ℕ) → bytes_eq name object ≡ false → name ≢ object
not_object name h e = false≢true (sym h ∙ (bytes_eq-Decides name object).1 e)

object_not : (name : List ℕ) → name ≢ object → bytes_eq name object ≡ false
object_not name h = false_from_ne_true (bytes_eq name object) (λ e. h ((bytes_eq-Decides name object).0 e))

is_empty : (rest : List ℕ) → rest ≡ [] → eqb (length rest) 0 ≡ true
is_empty rest e = rw e refl

not_empty : (rest : List ℕ) → rest ≢ [] → eqb (length rest) 0 ≡ false
not_empty rest h = ne_eqb (length rest) 0 (λ e. h (nil_from_length rest e))

-- ---- the class file

-- magic, versions and pool, and what stands behind them
record Whole (bytes : List ℕ) (c : ClassRecord) : Type 0 where
  major : ℕ
  pool : List (Option Constant)
  rest : Rest
  start : Place
  this : Place
  last : Place
  head : StartsWith IsFileHead (start_of bytes) major start
  is_pool : StartsWith IsPool start pool this
  is_rest : StartsWith (IsRest pool) this rest last
  end : last.rest ≡ []
  not_built_in : rest.name ≢ object
  class : class_of major pool rest ≡ c

regroup : (magic minor major pool flags this super interfaces fields methods attributes : List ℕ)
    → (magic ++ (minor ++ major)) ++ (pool ++ ((flags ++ (this ++ super)) ++ (interfaces ++ (fields ++ (methods ++ attributes)))))
    ≡ magic ++ (minor ++ (major ++ (pool ++ (flags ++ (this ++ (super ++ (interfaces ++ (fields ++ (methods ++ attributes)))))))))
regroup magic minor major pool flags this super interfaces fields methods attributes = simp append_assoc

whole_is : (bytes : List ℕ) (c : ClassRecord) (w : Whole bytes c) → IsClassFile bytes (class_of w.major w.pool w.rest)
whole_is bytes c w =
    let h = w.head.is in
    let r = w.is_rest.is in
    let n = r.are_names in
    let spans = joined (rewritten (h.1 ∙ ap (λ (t : List ℕ). big_bytes 4 0xcafebabe ++ t) h.2.3) (spanned w.head)) (joined (spanned w.is_pool) (rewritten (r.parts ∙ ap (λ (t : List ℕ). t ++ (r.interfaces ++ (r.fields ++ (r.methods ++ r.attributes)))) n.parts) (spanned w.is_rest))) in
    let all : List ℕ = (big_bytes 4 0xcafebabe ++ (big_bytes 2 h.2.0 ++ big_bytes 2 w.major)) ++ (w.is_pool.piece ++ ((big_bytes 2 w.rest.flags ++ (n.this ++ n.super)) ++ (r.interfaces ++ (r.fields ++ (r.methods ++ r.attributes))))) in
    let parts : bytes ≡ all = spans.parts ∙ ap (λ (t : List ℕ). all ++ t) w.end ∙ append-nil all in
    record {
      minor = h.2.0;
      pool = w.is_pool.piece;
      this = n.this;
      super = n.super;
      super_class = w.rest.super_name;
      interfaces = r.interfaces;
      fields = r.fields;
      methods = r.methods;
      attributes = r.attributes;
      minor_fits = h.2.1;
      version = h.2.2;
      flags_fit = n.flags_fit;
      is_pool = w.is_pool.is;
      named = n.named;
      below = (n.below, refl);
      are_interfaces = r.are_interfaces;
      are_fields = r.are_fields.0;
      are_methods = r.are_methods.0;
      are_attributes = r.are_attributes;
      distinct_fields = subst AreDistinct (pairs_of_fields w.rest.fields) r.are_fields.1;
      distinct_methods = subst AreDistinct (pairs_of_methods w.rest.methods) r.are_methods.1;
      not_built_in = w.not_built_in;
      parts = parts ∙ regroup (big_bytes 4 0xcafebabe) (big_bytes 2 h.2.0) (big_bytes 2 w.major) w.is_pool.piece (big_bytes 2 w.rest.flags) n.this n.super r.interfaces r.fields r.methods r.attributes;
    }

class_file : (bytes : List ℕ) (c : ClassRecord) → Whole bytes c → IsClassFile bytes c
class_file bytes c w = subst (λ (k : ClassRecord). IsClassFile bytes k) w.class (whole_is bytes c w)

-- what stands behind the pool of a class
abbrev rest_of : ClassRecord → List ℕ → Rest
rest_of c super_name = record { flags = c.flags; name = c.name; super_name = super_name; interfaces = c.interfaces; fields = c.fields; methods = c.methods }

whole_of : (bytes : List ℕ) (c : ClassRecord) → IsClassFile bytes c → Whole bytes c
whole_of bytes c f =
    let versions : List ℕ = big_bytes 2 f.minor ++ big_bytes 2 c.major in
    let front : List ℕ = big_bytes 4 0xcafebabe ++ versions in
    let names : List ℕ = big_bytes 2 c.flags ++ (f.this ++ f.super) in
    let behind : List ℕ = names ++ (f.interfaces ++ (f.fields ++ (f.methods ++ f.attributes))) in
    let all : List ℕ = front ++ (f.pool ++ behind) in
    let last : Place = record { at = 0 + length all; rest = [] } in
    let parts : bytes ≡ all = f.parts ∙ sym (regroup (big_bytes 4 0xcafebabe) (big_bytes 2 f.minor) (big_bytes 2 c.major) f.pool (big_bytes 2 c.flags) f.this f.super f.interfaces f.fields f.methods f.attributes) in
    let spans : Spans (start_of bytes) all last = record { parts = parts ∙ sym (append-nil all); moved = refl } in
    let w1 = second_of_two front (f.pool ++ behind) spans in
    let rest : IsRest c.pool behind (rest_of c f.super_class) = record {
      names = names;
      interfaces = f.interfaces;
      fields = f.fields;
      methods = f.methods;
      attributes = f.attributes;
      are_names = record { this = f.this; super = f.super; flags_fit = f.flags_fit; named = f.named; below = f.below.0; parts = refl };
      are_interfaces = f.are_interfaces;
      are_fields = (f.are_fields, subst AreDistinct (sym (pairs_of_fields c.fields)) f.distinct_fields);
      are_methods = (f.are_methods, subst AreDistinct (sym (pairs_of_methods c.methods)) f.distinct_methods);
      are_attributes = f.are_attributes;
      parts = refl;
    } in
    record {
      major = c.major;
      pool = c.pool;
      rest = rest_of c f.super_class;
      start = middle_of (start_of bytes) front (f.pool ++ behind) last;
      this = middle_of (middle_of (start_of bytes) front (f.pool ++ behind) last) f.pool behind last;
      last = last;
      head = starts IsFileHead c.major front (first_of_two front (f.pool ++ behind) spans) (versions, refl, (f.minor, f.minor_fits, f.version, refl));
      is_pool = starts IsPool c.pool f.pool (first_of_two f.pool behind w1) f.is_pool;
      is_rest = starts (IsRest c.pool) (rest_of c f.super_class) behind (second_of_two f.pool behind w1) rest;
      end = refl;
      not_built_in = f.not_built_in;
      class = ap (λ (o : Option (List ℕ)). let k : ClassRecord = record c { super_name = o } in k) (sym f.below.1);
    }

-- ---- the class

abbrev behind_pool : List ℕ → ℕ → List (Option Constant) × Place → Result ClassRecord ClassFault
behind_pool bytes major pool = settled (length bytes) (rest_at pool.0 pool.1) >>= class_with major pool.0 (pool.1.at + 2)

abbrev behind_head : List ℕ → ℕ × Place → Result ClassRecord ClassFault
behind_head bytes head = in_class (pool_at head.1) >>= behind_pool bytes head.0

-- the parts that were read
class_is : (bytes : List ℕ) (c : ClassRecord) → IsBytes bytes → verdict bytes ≡ Ok c → IsClassFile bytes c
unfolding verdict
class_is bytes c fits e =
    let head = went (settled (length bytes) (head_at (start_of bytes))) (behind_head bytes) c e in
    let h = head_reader.takes (start_of bytes) head.0.0 head.0.1 fits (passes_settled (length bytes) (head_at (start_of bytes)) head.0 head.1) in
    let h_fits = starts-rest IsFileHead (start_of bytes) head.0.1 head.0.0 h fits in
    let pool = went (in_class (pool_at head.0.1)) (behind_pool bytes head.0.0) c head.2 in
    let p = pool_takes head.0.1 pool.0.0 pool.0.1 h_fits (pool_ok (pool_at head.0.1) pool.0 pool.1) in
    let p_fits = starts-rest IsPool head.0.1 pool.0.1 pool.0.0 p h_fits in
    let rest = went (settled (length bytes) (rest_at pool.0.0 pool.0.1)) (class_with head.0.0 pool.0.0 (pool.0.1.at + 2)) c pool.2 in
    let r = (rest_reader pool.0.0).takes pool.0.1 rest.0.0 rest.0.1 p_fits (passes_settled (length bytes) (rest_at pool.0.0 pool.0.1) rest.0 rest.1) in
    let end = ended_ok (bytes_eq rest.0.0.name object) (eqb (length rest.0.1.rest) 0) head.0.0 pool.0.0 (pool.0.1.at + 2) rest.0 c rest.2 in
    let w : Whole bytes c = record {
      major = head.0.0;
      pool = pool.0.0;
      rest = rest.0.0;
      start = head.0.1;
      this = pool.0.1;
      last = rest.0.1;
      head = h;
      is_pool = p;
      is_rest = r;
      end = nil_from_length rest.0.1.rest (eqb-true (length rest.0.1.rest) 0 end.1);
      not_built_in = not_object rest.0.0.name end.0;
      class = end.2;
    } in
    class_file bytes c w

ended_with : (major : ℕ) (pool : List (Option Constant)) (this : ℕ) (rest : Rest × Place) (reserved whole : Bool) → bytes_eq rest.0.name object ≡ reserved → eqb (length rest.1.rest) 0 ≡ whole
    → class_with major pool this rest ≡ ended reserved whole major pool this rest
ended_with major pool this rest reserved whole r w = rw (r, w) refl

class_again : (bytes : List ℕ) (c : ClassRecord) → IsClassFile bytes c → verdict bytes ≡ Ok c
unfolding verdict
class_again bytes c f =
    let w = whole_of bytes c f in
    let head = settled_passes (length bytes) (head_at (start_of bytes)) (w.major, w.start) (head_reader.again (start_of bytes) w.major w.start w.head) in
    let pool = pool_again w.start w.pool w.this w.is_pool in
    let rest = settled_passes (length bytes) (rest_at w.pool w.this) (w.rest, w.last) ((rest_reader w.pool).again w.this w.rest w.last w.is_rest) in
    let end = ended_with w.major w.pool (w.this.at + 2) (w.rest, w.last) false true (object_not w.rest.name w.not_built_in) (is_empty w.last.rest w.end) in
    goes (behind_head bytes) head
    (goes (behind_pool bytes w.major) (ap (λ (r : Result (List (Option Constant) × Place) PoolFault). in_class r) pool)
    (goes (class_with w.major w.pool (w.this.at + 2)) rest (end ∙ ap (λ (k : ClassRecord). answers k) w.class)))

-- ---- the first fault

-- where the head and the pool are right
record Begun (bytes : List ℕ) (major : ℕ) (start : Place) (pool : List (Option Constant)) (this : Place) : Type 0 where
  head : settled (length bytes) (head_at (start_of bytes)) ≡ Ok (major, start)
  is_pool : pool_at start ≡ Ok (pool, this)

begun_has : (bytes : List ℕ) (major : ℕ) (start : Place) (pool : List (Option Constant)) (this : Place) → IsBytes bytes → Begun bytes major start pool this → HasPool bytes pool this
begun_has bytes major start pool this fits b =
    let passes = passes_settled (length bytes) (head_at (start_of bytes)) (major, start) b.head in
    let h = head_reader.takes (start_of bytes) major start fits passes in
    record { major = major; start = start; head = passes; is_pool = pool_takes start pool this (starts-rest IsFileHead (start_of bytes) start major h fits) b.is_pool }

fault_behind : (bytes : List ℕ) (major : ℕ) (start : Place) (pool : List (Option Constant)) (this : Place) (d : ClassFault) → IsBytes bytes → Begun bytes major start pool this → behind_pool bytes major (pool, this) ≡ Err d → IsFirstFault bytes d
fault_behind bytes major start pool this d fits b e =
    let has = begun_has bytes major start pool this fits b in
    elim (failed (settled (length bytes) (rest_at pool this)) (class_with major pool (this.at + 2)) d e) [
      | inl h ↦ in_rest has (first_settled (length bytes) (rest_at pool this) d h)
      | inr rest ↦
          let r : HasRest bytes rest.0.0 this rest.0.1 = record { pool = pool; found = has; passes = passes_settled (length bytes) (rest_at pool this) rest.0 rest.1 } in
          elim (ended_err (bytes_eq rest.0.0.name object) (eqb (length rest.0.1.rest) 0) major pool (this.at + 2) rest.0 d rest.2) [
            | inl reserved ↦ subst (λ (f : ClassFault). IsFirstFault bytes f) reserved.1 (built_in r ((bytes_eq-Decides rest.0.0.name object).0 reserved.0))
            | inr trailing ↦
                let some : rest.0.1.rest ≢ [] = λ none. false≢true (sym trailing.1 ∙ is_empty rest.0.1.rest none) in
                subst (λ (f : ClassFault). IsFirstFault bytes f) trailing.2 (goes_past r (not_object rest.0.0.name trailing.0) some)
          ]
    ]

fault_is_first : (bytes : List ℕ) (d : ClassFault) → IsBytes bytes → verdict bytes ≡ Err d → IsFirstFault bytes d
unfolding verdict
fault_is_first bytes d fits e =
    elim (failed (settled (length bytes) (head_at (start_of bytes))) (behind_head bytes) d e) [
      | inl h ↦ in_head (first_settled (length bytes) (head_at (start_of bytes)) d h)
      | inr head ↦
          let passes = passes_settled (length bytes) (head_at (start_of bytes)) head.0 head.1 in
          let h = head_reader.takes (start_of bytes) head.0.0 head.0.1 fits passes in
          elim (failed (in_class (pool_at head.0.1)) (behind_pool bytes head.0.0) d head.2) [
            | inl h_pool ↦
                let f = pool_err (pool_at head.0.1) d h_pool in
                subst (λ (c : ClassFault). IsFirstFault bytes c) f.2 (in_pool passes (first_read head.0.1 f.0 (starts-rest IsFileHead (start_of bytes) head.0.1 head.0.0 h fits) f.1))
            | inr pool ↦ fault_behind bytes head.0.0 head.0.1 pool.0.0 pool.0.1 d fits (record { head = head.1; is_pool = pool_ok (pool_at head.0.1) pool.0 pool.1 }) pool.2
          ]
    ]

-- a verdict behind a pool that is there
begins : (bytes : List ℕ) (pool : List (Option Constant)) (this : Place) (y : Result ClassRecord ClassFault) (has : HasPool bytes pool this) → behind_pool bytes has.major (pool, this) ≡ y → verdict bytes ≡ y
unfolding verdict
begins bytes pool this y has e =
    goes (behind_head bytes) (settled_passes (length bytes) (head_at (start_of bytes)) (has.major, has.start) has.head)
    (goes (behind_pool bytes has.major) (ap (λ (r : Result (List (Option Constant) × Place) PoolFault). in_class r) (pool_again has.start pool this has.is_pool)) e)

ends_with : (bytes : List ℕ) (rest : Rest) (this last : Place) (has : HasRest bytes rest this last) (reserved whole : Bool) → bytes_eq rest.name object ≡ reserved → eqb (length last.rest) 0 ≡ whole
    → verdict bytes ≡ ended reserved whole has.found.major has.pool (this.at + 2) (rest, last)
ends_with bytes rest this last has reserved whole r w =
    begins bytes has.pool this (ended reserved whole has.found.major has.pool (this.at + 2) (rest, last)) has.found
    (goes (class_with has.found.major has.pool (this.at + 2)) (settled_passes (length bytes) (rest_at has.pool this) (rest, last) has.passes)
    (ended_with has.found.major has.pool (this.at + 2) (rest, last) reserved whole r w))

fault_again : (bytes : List ℕ) (d : ClassFault) → IsBytes bytes → IsFirstFault bytes d → verdict bytes ≡ Err d
unfolding verdict
fault_again bytes d fits (in_head is) = ends (behind_head bytes) d (settled_first (length bytes) (head_at (start_of bytes)) d is)
fault_again bytes _ fits (in_pool {major} {start} {fault} head is) =
    let h = head_reader.takes (start_of bytes) major start fits head in
    let refused = pool_fault_again start fault (starts-rest IsFileHead (start_of bytes) start major h fits) is in
    goes (behind_head bytes) (settled_passes (length bytes) (head_at (start_of bytes)) (major, start) head)
    (ends (behind_pool bytes major) (fault_of fault) (ap (λ (r : Result (List (Option Constant) × Place) PoolFault). in_class r) refused))
fault_again bytes d fits (in_rest {pool} {place} has is) =
    begins bytes pool place (Err d) has (ends (class_with has.major pool (place.at + 2)) d (settled_first (length bytes) (rest_at pool place) d is))
fault_again bytes _ fits (built_in {rest} {this} {last} has name) = ends_with bytes rest this last has true (eqb (length last.rest) 0) ((bytes_eq-Decides rest.name object).1 name) refl
fault_again bytes _ fits (goes_past {rest} {this} {last} has name some) = ends_with bytes rest this last has false false (object_not rest.name name) (not_empty last.rest some)

-- ---- the laws

pub class_exact : (bytes : List ℕ) → IsBytes bytes → (c : ClassRecord) → (verdict bytes ≡ Ok c) ↔ IsClassFile bytes c
class_exact bytes fits c = (λ e. class_is bytes c fits e, λ f. class_again bytes c f)

pub fault_exact : (bytes : List ℕ) → IsBytes bytes → (d : ClassFault) → (verdict bytes ≡ Err d) ↔ IsFirstFault bytes d
fault_exact bytes fits d = (λ e. fault_is_first bytes d fits e, λ f. fault_again bytes d fits f)

abbrev ClassOrFault : List ℕ → Type 0
ClassOrFault bytes = ((c : ClassRecord) × IsClassFile bytes c) ⊎ ((d : ClassFault) × IsFirstFault bytes d)

class_or_fault : (bytes : List ℕ) (read : Result ClassRecord ClassFault) → IsBytes bytes → verdict bytes ≡ read → ClassOrFault bytes
class_or_fault bytes (Ok c) fits e = inl (c, class_is bytes c fits e)
class_or_fault bytes (Err d) fits e = inr (d, fault_is_first bytes d fits e)

not_both_ways : (c : ClassRecord) (d : ClassFault) → answers c ≡ fails d → ⊥
not_both_ways c d e = cc

pub decided : (bytes : List ℕ) → IsBytes bytes → IsDecided bytes
decided bytes fits = record {
  either = class_or_fault bytes (verdict bytes) fits refl;
  one_class = λ c other f g. answer_is c other (sym (class_again bytes c f) ∙ class_again bytes other g);
  one_fault = λ d other f g. fault_is {A = ClassRecord} d other (sym (fault_again bytes d fits f) ∙ fault_again bytes other fits g);
  not_both = λ c d f g. not_both_ways c d (sym (class_again bytes c f) ∙ fault_again bytes d fits g);
}
