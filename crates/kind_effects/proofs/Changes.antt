-- What an action pushes and leaves in the locals, by what lies below and above it.
use Rattle.std.proofs.Common.{◌≡◌, ℕ, ◌+◌, List, ◌++◌, length, drop, set, refl, ◌∙◌, Option, Some, None, Bool, true, false}
use Rattle.std.proofs.lemmas.List.{length-set}
use Rattle.std.specs.Prelude.{if◌then◌else◌}
use Rattle.class_pool.specs.declared.constant.Constant.{Constant}
use Rattle.class_pool.specs.Pool.{class_name_at}
use Rattle.descriptors.specs.Texts.{is_array}
use Rattle.op_table.specs.declared.acts.Action.{Action}
use Rattle.op_table.specs.declared.acts.Action.TheVariants as acts
use Rattle.op_table.specs.declared.acts.Kind as values
use Rattle.op_table.specs.declared.acts.Kind.TheVariants as value
use Rattle.op_table.specs.declared.acts.Element.{Element}
use Rattle.op_table.specs.declared.acts.Element.TheVariants as elements
use Rattle.op_table.specs.declared.acts.Shuffle.{Shuffle}
use Rattle.op_table.specs.declared.acts.Shuffle.TheVariants.{Pop, Pop2, Dup, DupX1, DupX2, Dup2, Dup2X1, Dup2X2, Swap}
use Rattle.slot_facts.specs.declared.kind.Kind.{Kind}
use Rattle.slot_facts.specs.declared.kind.Kind.TheVariants as kinds
use Rattle.kind_frames.proofs.KindOrder.{Below, itself}
use Rattle.kind_frames.proofs.Pointwise.{Each, none, each_itself}
use Rattle.kind_effects.specs.Types.{kind_named}
use Rattle.kind_effects.specs.Effects.{moved, loaded, element_kinds, pushed, stored, locals_after, lowest, below_size}
use Rattle.kind_effects.proofs.Places.{each_append, each_take, each_drop, each_set, each_at, each_one, IsClass, array, object, element_below, cast_below}

-- ---- locals

stored_length : (kind : values.Kind) (xs : List Kind) (n : ℕ) (x : Kind) → length (stored kind xs n x) ≡ length xs
stored_length value.Int xs n x = length-set xs n kinds.Int
stored_length value.Long xs n x = length-set (set xs n kinds.Long) (n + 1) kinds.Pad ∙ length-set xs n kinds.Long
stored_length value.Reference xs n x = length-set xs n x

stored_each : (kind : values.Kind) {xs ys : List Kind} {x y : Kind} (n : ℕ) → Below x y → Each xs ys → Each (stored kind xs n x) (stored kind ys n y)
stored_each value.Int n b each = each_set n itself each
stored_each value.Long n b each = each_set (n + 1) itself (each_set n itself each)
stored_each value.Reference n b each = each_set n b each

pub locals_length : (action : Action) (xs words : List Kind) → length (locals_after action xs words) ≡ length xs
unfolding locals_after
locals_length acts.Nothing xs words = refl
locals_length acts.PushNull xs words = refl
locals_length (acts.PushInt n) xs words = refl
locals_length (acts.PushLong n) xs words = refl
locals_length (acts.PushConstant i) xs words = refl
locals_length (acts.PushLongConstant i) xs words = refl
locals_length (acts.Load kind n) xs words = refl
locals_length (acts.Store kind n) xs words = stored_length kind xs n (lowest words)
locals_length (acts.LoadElement e) xs words = refl
locals_length (acts.StoreElement e) xs words = refl
locals_length (acts.Shuffle s) xs words = refl
locals_length (acts.Arithmetic op w) xs words = refl
locals_length (acts.Negate w) xs words = refl
locals_length (acts.Shift s w) xs words = refl
locals_length (acts.Logic l w) xs words = refl
locals_length (acts.Increment n k) xs words = length-set xs n kinds.Int
locals_length acts.IntToLong xs words = refl
locals_length acts.LongToInt xs words = refl
locals_length (acts.Narrow small) xs words = refl
locals_length acts.CompareLongs xs words = refl
locals_length (acts.IfZero test d) xs words = refl
locals_length (acts.IfInts test d) xs words = refl
locals_length (acts.IfSame same d) xs words = refl
locals_length (acts.IfNull null d) xs words = refl
locals_length (acts.Goto d) xs words = refl
locals_length (acts.Switch default low count pairs) xs words = refl
locals_length (acts.Return kind) xs words = refl
locals_length acts.ReturnNothing xs words = refl
locals_length (acts.GetStatic i) xs words = refl
locals_length (acts.PutStatic i) xs words = refl
locals_length (acts.GetField i) xs words = refl
locals_length (acts.PutField i) xs words = refl
locals_length (acts.Call c i) xs words = refl
locals_length (acts.New i) xs words = refl
locals_length (acts.NewArray kind) xs words = refl
locals_length (acts.NewReferenceArray i) xs words = refl
locals_length acts.ArrayLength xs words = refl
locals_length acts.Throw xs words = refl
locals_length (acts.CheckCast i) xs words = refl
locals_length (acts.InstanceOf i) xs words = refl
locals_length (acts.Outside construct) xs words = refl

pub locals_each : (action : Action) {xs ys us vs : List Kind} → Each xs ys → Each us vs → Each (locals_after action xs us) (locals_after action ys vs)
unfolding locals_after
locals_each acts.Nothing each words = each
locals_each acts.PushNull each words = each
locals_each (acts.PushInt n) each words = each
locals_each (acts.PushLong n) each words = each
locals_each (acts.PushConstant i) each words = each
locals_each (acts.PushLongConstant i) each words = each
locals_each (acts.Load kind n) each words = each
locals_each (acts.Store kind n) each words = stored_each kind n (each_at 0 words) each
locals_each (acts.LoadElement e) each words = each
locals_each (acts.StoreElement e) each words = each
locals_each (acts.Shuffle s) each words = each
locals_each (acts.Arithmetic op w) each words = each
locals_each (acts.Negate w) each words = each
locals_each (acts.Shift s w) each words = each
locals_each (acts.Logic l w) each words = each
locals_each (acts.Increment n k) each words = each_set n itself each
locals_each acts.IntToLong each words = each
locals_each acts.LongToInt each words = each
locals_each (acts.Narrow small) each words = each
locals_each acts.CompareLongs each words = each
locals_each (acts.IfZero test d) each words = each
locals_each (acts.IfInts test d) each words = each
locals_each (acts.IfSame same d) each words = each
locals_each (acts.IfNull null d) each words = each
locals_each (acts.Goto d) each words = each
locals_each (acts.Switch default low count pairs) each words = each
locals_each (acts.Return kind) each words = each
locals_each acts.ReturnNothing each words = each
locals_each (acts.GetStatic i) each words = each
locals_each (acts.PutStatic i) each words = each
locals_each (acts.GetField i) each words = each
locals_each (acts.PutField i) each words = each
locals_each (acts.Call c i) each words = each
locals_each (acts.New i) each words = each
locals_each (acts.NewArray kind) each words = each
locals_each (acts.NewReferenceArray i) each words = each
locals_each acts.ArrayLength each words = each
locals_each acts.Throw each words = each
locals_each (acts.CheckCast i) each words = each
locals_each (acts.InstanceOf i) each words = each
locals_each (acts.Outside construct) each words = each

-- ---- words that are pushed

loaded_each : (kind : values.Kind) {xs ys : List Kind} (n : ℕ) → Each xs ys → Each (loaded kind xs n) (loaded kind ys n)
loaded_each value.Int n each = each_itself _
loaded_each value.Long n each = each_itself _
loaded_each value.Reference n each = each_one (each_at n each)

element_each : (e : Element) {x y : Kind} → Below x y → Each (element_kinds e x) (element_kinds e y)
element_each elements.Int b = each_itself _
element_each elements.Long b = each_itself _
element_each elements.Reference b = each_one (element_below b)
element_each elements.Byte b = each_itself _
element_each elements.Char b = each_itself _
element_each elements.Short b = each_itself _

around : {xs ys us vs : List Kind} → Each xs ys → Each us vs → Each (us ++ xs ++ us) (vs ++ ys ++ vs)
around below top = each_append (each_append top below) top

moved_each : (s : Shuffle) {xs ys us vs : List Kind} → Each xs ys → Each us vs → Each (moved s xs us) (moved s ys vs)
moved_each Pop below top = none
moved_each Pop2 below top = none
moved_each Dup below top = each_append top top
moved_each DupX1 below top = around below top
moved_each DupX2 below top = around below top
moved_each Dup2 below top = each_append top top
moved_each Dup2X1 below top = around below top
moved_each Dup2X2 below top = around below top
moved_each Swap below top = each_append top below

reference_class : (is : Bool) (element : List ℕ) → IsClass (if is then kinds.Arr element else kinds.Obj)
reference_class true element = array
reference_class false element = object

named_class : (name : Option (List ℕ)) → IsClass (kind_named name)
named_class None = object
named_class (Some name) = reference_class (is_array name) (drop 1 name)

pub pushed_each :
    (pool : List (Option Constant)) (action : Action) {xs ys us vs : List Kind} → Each xs ys → Each us vs
    → Each (pushed pool action xs us) (pushed pool action ys vs)
unfolding pushed
pushed_each pool acts.Nothing each words = each_itself _
pushed_each pool acts.PushNull each words = each_itself _
pushed_each pool (acts.PushInt n) each words = each_itself _
pushed_each pool (acts.PushLong n) each words = each_itself _
pushed_each pool (acts.PushConstant i) each words = each_itself _
pushed_each pool (acts.PushLongConstant i) each words = each_itself _
pushed_each pool (acts.Load kind n) each words = loaded_each kind n each
pushed_each pool (acts.Store kind n) each words = each_itself _
pushed_each pool (acts.LoadElement e) each words = element_each e (each_at 0 words)
pushed_each pool (acts.StoreElement e) each words = each_itself _
pushed_each pool (acts.Shuffle s) each words = moved_each s (each_take (below_size s) words) (each_drop (below_size s) words)
pushed_each pool (acts.Arithmetic op w) each words = each_itself _
pushed_each pool (acts.Negate w) each words = each_itself _
pushed_each pool (acts.Shift s w) each words = each_itself _
pushed_each pool (acts.Logic l w) each words = each_itself _
pushed_each pool (acts.Increment n k) each words = each_itself _
pushed_each pool acts.IntToLong each words = each_itself _
pushed_each pool acts.LongToInt each words = each_itself _
pushed_each pool (acts.Narrow small) each words = each_itself _
pushed_each pool acts.CompareLongs each words = each_itself _
pushed_each pool (acts.IfZero test d) each words = each_itself _
pushed_each pool (acts.IfInts test d) each words = each_itself _
pushed_each pool (acts.IfSame same d) each words = each_itself _
pushed_each pool (acts.IfNull null d) each words = each_itself _
pushed_each pool (acts.Goto d) each words = each_itself _
pushed_each pool (acts.Switch default low count pairs) each words = each_itself _
pushed_each pool (acts.Return kind) each words = each_itself _
pushed_each pool acts.ReturnNothing each words = each_itself _
pushed_each pool (acts.GetStatic i) each words = each_itself _
pushed_each pool (acts.PutStatic i) each words = each_itself _
pushed_each pool (acts.GetField i) each words = each_itself _
pushed_each pool (acts.PutField i) each words = each_itself _
pushed_each pool (acts.Call c i) each words = each_itself _
pushed_each pool (acts.New i) each words = each_itself _
pushed_each pool (acts.NewArray kind) each words = each_itself _
pushed_each pool (acts.NewReferenceArray i) each words = each_itself _
pushed_each pool acts.ArrayLength each words = each_itself _
pushed_each pool acts.Throw each words = each_itself _
pushed_each pool (acts.CheckCast i) each words = each_one (cast_below (named_class (class_name_at pool i)) (each_at 0 words))
pushed_each pool (acts.InstanceOf i) each words = each_itself _
pushed_each pool (acts.Outside construct) each words = each_itself _
