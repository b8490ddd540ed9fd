-- Bytes in which a fault is there are no class file.
use Rattle.std.proofs.Common.{◌≡◌, ◌⊎◌, ℕ, zero, suc, ◌^◌, ◌<◌, false, List, [], ◌∷◌, ◌++◌, length, Option, Some, None, refl, sym, ap, ◌∙◌, append_assoc, arith, inl, inr, true≢false}
use Rattle.std.specs.Prelude.{codes}
use Rattle.std.proofs.lemmas.List.{length-append}
use Rattle.byteorder.specs.Endian.{big_bytes}
use Rattle.byteorder.specs.Numbers.{length-bytes_high_first}
use Rattle.class_pool.specs.declared.constant.Constant.{Constant}
use Rattle.class_pool.specs.declared.fault.PoolFault.{PoolFault}
use Rattle.class_pool.specs.declared.fault.PoolFault.TheVariants as pool
use Rattle.class_pool.specs.Pieces.{Each, Counted}
use Rattle.class_pool.specs.Pool.{class_name_at}
use Rattle.class_reader.specs.declared.class.ClassRecord.{ClassRecord}
use Rattle.class_reader.specs.declared.class.Handler.{Handler}
use Rattle.class_reader.specs.declared.fault.ClassFault.{ClassFault}
use Rattle.class_reader.specs.declared.fault.ClassFault.TheVariants.{Magic, Version, Short, Pool, BadDesc, BadCode, Repeated, Reserved, Trailing, Memory}
use Rattle.class_reader.specs.FirstFault.{start_of}
use Rattle.class_reader.specs.ClassFile.{Attribute, IsAttribute, IsCatch, IsHandler, codes_of, IsClassFile}
use Rattle.class_faults.specs.Pieces.{HasNumberAt, RawAttribute, IsRawAttribute, IsRawHandler, IsFilled}
use Rattle.class_faults.specs.Parts.{Fields, Methods, Names, OfClass, OfMember, Attributes, Members}
use Rattle.class_faults.specs.Faults.{IsCutFile, HasBadIndex, LacksCode, HasBadCode, IsBuiltIn, GoesOn, HasPoolFault, StandsInClass, StandsAt}
use Rattle.class_faults.proofs.Fronts.{number_same, nothing_left}
use Rattle.class_faults.proofs.Agrees.{Behind, Agrees}
use Rattle.class_faults.proofs.Agreement.{CodeHere, the_code, agrees}
use Rattle.class_faults.proofs.ClassBehind.{class_parts, class_long, class_pool_at, behind_here}
use Rattle.class_faults.proofs.NoPool.{no_pool_fault}
use Rattle.class_faults.proofs.NoClass.{no_cut_part, no_bad_index, no_bad_descriptor, no_repeated, text_is}

-- ---- code fills its attribute

-- the same pieces, whatever they say
record RawPieces {R : Type 0} (Raw : List ℕ → R → Type 0) (bytes : List ℕ) (n : ℕ) : Type 0 where
  raws : List R
  each : Each Raw bytes raws
  sized : length raws ≡ n

raw_pieces : {A R : Type 0} (Is : List ℕ → A → Type 0) (Raw : List ℕ → R → Type 0) → ((bytes : List ℕ) (x : A) → Is bytes x → (r : R) × Raw bytes r) → (xs : List A) (bytes : List ℕ) → Each Is bytes xs → RawPieces Raw bytes (length xs)
raw_pieces Is Raw one [] bytes e = record { raws = []; each = e; sized = refl }
raw_pieces Is Raw one (x ∷ xs) bytes e =
    let first = one e.0 x e.3 in
    let others = raw_pieces Is Raw one xs e.1 e.4 in
    record { raws = first.0 ∷ others.raws; each = (e.0, e.1, e.2, first.1, others.each); sized = ap suc others.sized }

raw_counted : {A R : Type 0} (Is : List ℕ → A → Type 0) (Raw : List ℕ → R → Type 0) → ((bytes : List ℕ) (x : A) → Is bytes x → (r : R) × Raw bytes r) → (xs : List A) (bytes : List ℕ) → Counted Is bytes xs → (rs : List R) × Counted Raw bytes rs
raw_counted Is Raw one xs bytes c =
    let raw = raw_pieces Is Raw one xs c.pieces c.each in
    (raw.raws, record { pieces = c.pieces; short = omega (arith, raw.sized, c.short); parts = c.parts ∙ ap (λ (n : ℕ). big_bytes 2 n ++ c.pieces) (sym raw.sized); each = raw.each })

raw_catch : (pool : List (Option Constant)) (bytes : List ℕ) (class : Option (List ℕ)) → IsCatch pool bytes class → (catch : ℕ) × (catch < 2 ^ 16) × (bytes ≡ big_bytes 2 catch)
raw_catch pool bytes None i = (0, omega arith, i)
raw_catch pool bytes (Some class) i = (i.0, i.1, i.2)

raw_handler : (pool : List (Option Constant)) (bytes : List ℕ) (handler : Handler) → IsHandler pool bytes handler → (catch : ℕ) × IsRawHandler bytes catch
raw_handler pool bytes handler h =
    let c = raw_catch pool h.catch handler.catch h.catches in
    let start : List ℕ = big_bytes 2 handler.start in
    let end : List ℕ = big_bytes 2 handler.end in
    let target : List ℕ = big_bytes 2 handler.handler in (
      c.0,
      record {
        places = start ++ (end ++ target);
        six = omega (arith, length-append start (end ++ target), length-append end target, length-bytes_high_first 2 handler.start, length-bytes_high_first 2 handler.end, length-bytes_high_first 2 handler.handler);
        catch_fits = c.1;
        parts = h.parts ∙ sym (append_assoc start (end ++ target) h.catch ∙ ap (λ (b : List ℕ). start ++ b) (append_assoc end target h.catch)) ∙ ap (λ (b : List ℕ). (start ++ (end ++ target)) ++ b) c.2;
      },
    )

raw_attribute : (pool : List (Option Constant)) (bytes : List ℕ) (a : Attribute) → IsAttribute pool bytes a → (stored : RawAttribute) × IsRawAttribute bytes stored
raw_attribute pool bytes a h =
    let len : List ℕ = big_bytes 4 (length a.body) ++ a.body in
    (record { name = h.named.0; body = a.body }, record { name_fits = h.named.1; short = h.short; parts = h.parts ∙ ap (λ (b : List ℕ). b ++ len) h.named.2 })

filled_code : (pool : List (Option Constant)) (body : List ℕ) → CodeHere pool body → IsFilled body
filled_code pool body h =
    let k = h.is in
    let stack : List ℕ = big_bytes 2 h.code.max_stack in
    let locals : List ℕ = big_bytes 2 h.code.max_locals in
    let len : List ℕ = big_bytes 4 (length h.code.bytes) in
    let behind : List ℕ = k.handlers ++ k.attributes in
    let caught = raw_counted (IsHandler pool) IsRawHandler (raw_handler pool) h.code.handlers k.handlers k.are_handlers in
    let stored = raw_counted (IsAttribute pool) IsRawAttribute (raw_attribute pool) k.are_attributes.0 k.attributes k.are_attributes.1 in
    record {
      code = h.code.bytes;
      instructions = (stack ++ locals) ++ (len ++ h.code.bytes);
      handlers = k.handlers;
      attributes = k.attributes;
      caught = caught.0;
      stored = stored.0;
      not_empty = k.not_empty;
      short = k.short;
      are_instructions = record {
        bounds = stack ++ locals;
        four = omega (arith, length-append stack locals, length-bytes_high_first 2 h.code.max_stack, length-bytes_high_first 2 h.code.max_locals);
        fits = omega (arith, k.short);
        parts = refl;
      };
      are_handlers = caught.1;
      are_attributes = stored.1;
      parts =
          k.parts ∙ sym (append_assoc stack locals (len ++ (h.code.bytes ++ behind))) ∙ ap (λ (b : List ℕ). (stack ++ locals) ++ b) (sym (append_assoc len h.code.bytes behind)) ∙ sym (append_assoc (stack ++ locals) (len ++ h.code.bytes) behind);
    }

-- ---- code

no_codes_in : (xs : List Attribute) (body : List ℕ) → length xs ≡ 0 → codes_of xs ≡ body ∷ [] → ⊥
no_codes_in [] body sized e = absurd (let wrong = e in cc)
no_codes_in (x ∷ xs) body sized e = omega (arith, sized)

no_lack : (bytes : List ℕ) (at : ℕ) (b : LacksCode bytes at) (c : Behind bytes b.pool) → Agrees bytes b.pool c (Attributes (OfMember b.method) false zero) b.place.rest → ⊥
no_lack bytes at b c a =
    elim (a.codes b.wants.0) [
      | inl t ↦ no_codes_in a.left.xs t.body a.left.sized t.only
      | inr t ↦ true≢false (sym b.wants.1 ∙ t.unwanted refl)
    ]

no_bad_code : (bytes : List ℕ) (at : ℕ) (b : HasBadCode bytes at) (c : Behind bytes b.pool) → Agrees bytes b.pool c (Attributes (OfMember b.method) b.met (suc b.left)) b.place.rest → ⊥
no_bad_code bytes at b c a =
    let k = the_code bytes b.pool c b.method b.met b.left b.place b.next b.stored a b.is_method b.starts b.named in
    elim b.wrong [
      | inl unwanted ↦ unwanted (b.is_method, k.wanted)
      | inr other ↦ elim other [
        | inl again ↦ true≢false (sym again ∙ k.first)
        | inr unfilled ↦ unfilled (filled_code b.pool b.stored.body k.code)
      ]
    ]

-- ---- the class

no_built_in : (bytes : List ℕ) (at : ℕ) (b : IsBuiltIn bytes at) (c : Behind bytes b.pool) → Agrees bytes b.pool c Names b.place.rest → ⊥
no_built_in bytes at b c a =
    let i = c.is_this in
    let flags : List ℕ = big_bytes 2 c.flags in
    let more : List ℕ = c.super ++ (c.interfaces ++ (c.members Fields ++ (c.members Methods ++ c.attributes))) in
    let same = number_same 2 2 b.place b.index i.0 flags more b.number (a ∙ ap (λ (t : List ℕ). flags ++ (t ++ more)) i.2) (length-bytes_high_first 2 c.flags) i.1 in
    c.not_built_in (text_is (class_name_at b.pool b.index) c.name (codes "java/lang/Object") (ap (class_name_at b.pool) same ∙ i.3) b.named)

no_more : (bytes : List ℕ) (at : ℕ) (b : GoesOn bytes at) (c : Behind bytes b.pool) → Agrees bytes b.pool c (Attributes OfClass b.met zero) b.place.rest → ⊥
no_more bytes at b c a = b.more (nothing_left (IsAttribute b.pool) b.place.rest a.tail a.left ∙ a.behind)

-- ---- the head

no_other_magic : (bytes : List ℕ) (class : ClassRecord) (k : IsClassFile bytes class) (magic : ℕ) → HasNumberAt 4 0 (start_of bytes) magic → (magic ≡ 0xcafebabe → ⊥) → ⊥
no_other_magic bytes class k magic number other =
    let versions : List ℕ = big_bytes 2 k.minor ++ big_bytes 2 class.major in
    other (number_same 4 0 (start_of bytes) magic 0xcafebabe [] (versions ++ _) number (class_parts bytes class k ∙ append_assoc (big_bytes 4 0xcafebabe) versions _) refl (omega arith))

no_other_version : (bytes : List ℕ) (class : ClassRecord) (k : IsClassFile bytes class) (major : ℕ) → HasNumberAt 2 6 (start_of bytes) major → (major < 45) ⊎ (65 < major) → ⊥
no_other_version bytes class k major number other =
    let magic : List ℕ = big_bytes 4 0xcafebabe in
    let minor : List ℕ = big_bytes 2 k.minor in
    let six : length (magic ++ minor) ≡ 6 = omega (arith, length-append magic minor, length-bytes_high_first 4 0xcafebabe, length-bytes_high_first 2 k.minor) in
    let same = number_same 2 6 (start_of bytes) major class.major (magic ++ minor) _ number (k.parts ∙ sym (append_assoc magic minor _)) six (omega (arith, k.version.1)) in
    elim other [ inl lt ↦ omega (arith, same, lt, k.version.0) | inr lt ↦ omega (arith, same, lt, k.version.1) ]

-- ---- all faults

no_cut_file : (bytes : List ℕ) (class : ClassRecord) → IsClassFile bytes class → IsCutFile bytes → ⊥
no_cut_file bytes class k (inl lt) = omega (arith, lt, class_long bytes class k)
no_cut_file bytes class k (inr (constants, part, place, s, cut)) =
    let c = behind_here bytes class constants part place k s in
    no_cut_part bytes constants c part place (agrees bytes constants c part place s) cut

no_fault_in_pool : (bytes : List ℕ) (class : ClassRecord) (fault : PoolFault) → IsClassFile bytes class → HasPoolFault bytes fault → ⊥
no_fault_in_pool bytes class fault k (major, start, head, s) = no_pool_fault start class.pool k.pool _ fault k.is_pool (class_pool_at bytes class k major start head) s

no_wrong_index : (bytes : List ℕ) (class : ClassRecord) (at index : ℕ) → IsClassFile bytes class → HasBadIndex bytes at index → ⊥
no_wrong_index bytes class at index k b =
    let c = behind_here bytes class b.pool b.part b.place k b.stands in
    no_bad_index bytes b.pool c b.part b.place b.skip index b.names (agrees bytes b.pool c b.part b.place b.stands) b.has b.number b.nothing

no_fault_in_class : (bytes : List ℕ) (class : ClassRecord) (fault : PoolFault) → IsClassFile bytes class → StandsInClass bytes fault → ⊥
no_fault_in_class bytes class (pool.BadIndex at index) k (inl s) = no_fault_in_pool bytes class (pool.BadIndex at index) k s
no_fault_in_class bytes class (pool.BadIndex at index) k (inr s) = no_wrong_index bytes class at index k s
no_fault_in_class bytes class (pool.Short at) k s = no_fault_in_pool bytes class (pool.Short at) k s
no_fault_in_class bytes class (pool.BadTag at tag) k s = no_fault_in_pool bytes class (pool.BadTag at tag) k s
no_fault_in_class bytes class (pool.BadUtf8 at) k s = no_fault_in_pool bytes class (pool.BadUtf8 at) k s
no_fault_in_class bytes class pool.Memory k s = no_fault_in_pool bytes class pool.Memory k s

pub no_class : (bytes : List ℕ) (fault : ClassFault) (class : ClassRecord) → StandsAt bytes fault → IsClassFile bytes class → ⊥
no_class bytes (Magic at) class s k = no_other_magic bytes class k s.1.0 s.1.1 s.1.2
no_class bytes (Version at) class s k = no_other_version bytes class k s.1.0 s.1.1 s.1.2
no_class bytes (Short at) class s k = no_cut_file bytes class k s.1
no_class bytes (Pool fault) class s k = no_fault_in_class bytes class fault k s
no_class bytes (BadDesc at) class s k =
    let m = s.member in
    let c = behind_here bytes class m.pool (Members m.kind m.before (suc m.left)) m.place k m.stands in
    no_bad_descriptor bytes at s c (agrees bytes m.pool c (Members m.kind m.before (suc m.left)) m.place m.stands)
no_class bytes (BadCode at) class (inl s) k =
    let c = behind_here bytes class s.pool (Attributes (OfMember s.method) false zero) s.place k s.stands in
    no_lack bytes at s c (agrees bytes s.pool c (Attributes (OfMember s.method) false zero) s.place s.stands)
no_class bytes (BadCode at) class (inr s) k =
    let c = behind_here bytes class s.pool (Attributes (OfMember s.method) s.met (suc s.left)) s.place k s.stands in
    no_bad_code bytes at s c (agrees bytes s.pool c (Attributes (OfMember s.method) s.met (suc s.left)) s.place s.stands)
no_class bytes (Repeated at) class s k =
    let m = s.member in
    let c = behind_here bytes class m.pool (Members m.kind m.before (suc m.left)) m.place k m.stands in
    no_repeated bytes at s c (agrees bytes m.pool c (Members m.kind m.before (suc m.left)) m.place m.stands)
no_class bytes (Reserved at) class s k =
    let c = behind_here bytes class s.pool Names s.place k s.stands in
    no_built_in bytes at s c (agrees bytes s.pool c Names s.place s.stands)
no_class bytes (Trailing at) class s k =
    let c = behind_here bytes class s.pool (Attributes OfClass s.met zero) s.place k s.stands in
    no_more bytes at s c (agrees bytes s.pool c (Attributes OfClass s.met zero) s.place s.stands)
no_class bytes Memory class s k = s
