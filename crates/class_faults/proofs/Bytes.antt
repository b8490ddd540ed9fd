-- At each place where a part stands there are bytes.
use Rattle.std.proofs.Common.{ℕ, ◌++◌, List, length, Option, refl}
use Rattle.byteorder.specs.Endian.{big_bytes}
use Rattle.class_pool.specs.declared.constant.Constant.{Constant}
use Rattle.class_pool.specs.Place.{Place, IsBytes}
use Rattle.class_pool.specs.Pieces.{StartsWith}
use Rattle.class_pool.specs.Pool.{IsPool}
use Rattle.class_pool.proofs.Numbers.{IsBytes-rest}
use Rattle.class_pool.proofs.Pieces.{starts-rest}
use Rattle.class_reader.proofs.MetLaws.{spanned, bytes_of}
use Rattle.class_faults.specs.Pieces.{IsNumber, IsFileHead, IsRawHead, RawAttribute, IsRawAttribute, IsRawHandler}
use Rattle.class_faults.specs.Parts.{Part, Stands, behind_pool, behind_names, so_many_interfaces, next_interface, then_fields, so_many_members, next_member, so_many_attributes, next_attribute, behind_member, then_methods, then_attributes, in_code, so_many_handlers, next_handler, then_code_attributes}

pub body_fits : (place next : Place) (stored : RawAttribute) → StartsWith IsRawAttribute place stored next → IsBytes place.rest → IsBytes stored.body
body_fits place next stored s fits =
    let whole = bytes_of (spanned s) fits in
    let len : List ℕ = big_bytes 4 (length stored.body) in
    IsBytes-rest (len ++ stored.body) len stored.body refl (IsBytes-rest s.piece (big_bytes 2 stored.name) (len ++ stored.body) s.is.parts whole)

pub stands_fit : (bytes : List ℕ) (pool : List (Option Constant)) (part : Part) (place : Place) → IsBytes bytes → Stands bytes pool part place → IsBytes place.rest
stands_fit bytes pool part place fits (behind_pool {place = p} o) = starts-rest IsPool o.start p pool o.is_pool (starts-rest IsFileHead (record { at = 0; rest = bytes }) o.start o.major o.head fits)
stands_fit bytes pool part place fits (behind_names {place = p} {next = q} {head = h} s t) = starts-rest IsRawHead p q h t (stands_fit bytes pool _ p fits s)
stands_fit bytes pool part place fits (so_many_interfaces {place = p} {next = q} {n = n} s t) = starts-rest (IsNumber 2) p q n t (stands_fit bytes pool _ p fits s)
stands_fit bytes pool part place fits (next_interface {place = p} {next = q} {n = n} {index = i} s t) = starts-rest (IsNumber 2) p q i t (stands_fit bytes pool _ p fits s)
stands_fit bytes pool part place fits (then_fields {place = p} s) = stands_fit bytes pool _ p fits s
stands_fit bytes pool part place fits (so_many_members {place = p} {next = q} {kind = k} {n = n} s t) = starts-rest (IsNumber 2) p q n t (stands_fit bytes pool _ p fits s)
stands_fit bytes pool part place fits (next_member {place = p} {next = q} {kind = k} {before = b} {n = n} {head = h} s t) = starts-rest IsRawHead p q h t (stands_fit bytes pool _ p fits s)
stands_fit bytes pool part place fits (so_many_attributes {place = p} {next = q} {owner = o} {n = n} s t) = starts-rest (IsNumber 2) p q n t (stands_fit bytes pool _ p fits s)
stands_fit bytes pool part place fits (next_attribute {place = p} {next = q} {owner = o} {met = m} {n = n} {stored = a} s t) = starts-rest IsRawAttribute p q a t (stands_fit bytes pool _ p fits s)
stands_fit bytes pool part place fits (behind_member {place = p} {m = m} {met = b} s) = stands_fit bytes pool _ p fits s
stands_fit bytes pool part place fits (then_methods {place = p} {before = b} s) = stands_fit bytes pool _ p fits s
stands_fit bytes pool part place fits (then_attributes {place = p} {before = b} s) = stands_fit bytes pool _ p fits s
stands_fit bytes pool part place fits (in_code {place = p} {next = q} {m = m} {n = n} {stored = a} {front = front} {rest = rest} s w t named filled i parts) =
    IsBytes-rest a.body front rest parts (body_fits p q a t (stands_fit bytes pool _ p fits s))
stands_fit bytes pool part place fits (so_many_handlers {place = p} {next = q} {n = n} s t) = starts-rest (IsNumber 2) p q n t (stands_fit bytes pool _ p fits s)
stands_fit bytes pool part place fits (next_handler {place = p} {next = q} {n = n} {catch = c} s t) = starts-rest IsRawHandler p q c t (stands_fit bytes pool _ p fits s)
stands_fit bytes pool part place fits (then_code_attributes {place = p} s) = stands_fit bytes pool _ p fits s
