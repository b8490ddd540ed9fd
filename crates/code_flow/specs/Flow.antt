-- The reachable code, or the first thing that stands against it.
use Rattle.std.specs.Prelude.{ℕ, Bool, true, false, List, [], ◌∷◌, map, take, Option, Some, None, Result, Ok, Err, slice_get, option_map, option_and_then}
use Rattle.std.specs.List.{list_any, position}
use Rattle.std.specs.Option.{option_or}
use Rattle.class_pool.specs.declared.target.Target.{Target}
use Rattle.class_reader.specs.declared.class.Code.{Code}
use Rattle.op_table.specs.declared.construct.Construct.{Construct}
use Rattle.op_table.specs.declared.construct.Construct.TheVariants.{Later}
use Rattle.world.specs.declared.member.MemberId.{MemberId}
use Rattle.class_hierarchy.specs.World.{World, class_at, number_of}
use Rattle.world.specs.Resolution.{member, is_method}
use Rattle.linking.specs.Methods.{code_at}
use Rattle.code_flow.specs.declared.fault.FlowFault.{FlowFault}
use Rattle.code_flow.specs.declared.fault.FlowFault.TheVariants.{NoMethod, Unsupported, TooManyMethods}
use Rattle.code_flow.specs.Plans.{Planned, Plan}
use Rattle.code_blocks.specs.declared.instruction.Placed.{Placed}
use Rattle.code_blocks.specs.Placing.{placed}
use Rattle.code_flow.specs.Judging.{judged, places_of}
use Rattle.code_flow.specs.Listing.{most_methods, is_among, targets_in, reached}

-- ---- the method that is asked for

abbrev pub declared_in : World → Target → ℕ → Option MemberId
declared_in w target c = option_map (member c) (position (is_method target.method target.desc) (class_at w c).methods)

abbrev pub with_code : World → MemberId → Option MemberId
with_code w m = option_and_then (λ code. Some m) (code_at w m)

-- the method that the class of the name declares, where it has code
unfoldable pub method_named : World → Target → Option MemberId
method_named w target = option_and_then (with_code w) (option_and_then (declared_in w target) (number_of w target.class))

-- ---- the first fault, place by place

-- one of the methods is m, or reaches it
abbrev pub lead_back : World → MemberId → List MemberId → Bool
lead_back w m ts = list_any (λ t. is_among (reached w t) m) ts

abbrev pub fault_if : Bool → FlowFault → Option FlowFault
fault_if true fault = Some fault
fault_if false fault = None

-- Where more methods are reached than are analysed: a construct, or a call of the first method that is too many.
-- Else a construct, or a call that leads back to its method, which isn't built yet.
abbrev pub fault_of : World → Option MemberId → MemberId → ℕ → Result (List MemberId) Construct → Option FlowFault
fault_of w over m pc (Err construct) = Some (Unsupported m pc construct)
fault_of w None m pc (Ok ts) = fault_if (lead_back w m ts) (Unsupported m pc Later)
fault_of w (Some first_over) m pc (Ok ts) = fault_if (is_among ts first_over) TooManyMethods

-- the first answer for the things of a list, in order
unfoldable pub first_of : {A B : Type 0} → (A → Option B) → List A → Option B
first_of f [] = None
first_of f (a ∷ others) = option_or (f a) (first_of f others)

abbrev pub first_in : World → Option MemberId → MemberId → Option FlowFault
first_in w over m = first_of (λ place. fault_of w over m place.pc place.verdict) (places_of w m)

-- the first fault of the methods in order, and in each by pc
unfoldable pub first_fault : World → Option MemberId → List MemberId → Option FlowFault
first_fault w over ms = first_of (first_in w over) ms

-- ---- the program

abbrev pub planned_place : World → ℕ → List ℕ → Placed → Planned
planned_place w current code p = record {
  pc = p.pc;
  instr = p.instr;
  targets = targets_in (judged w current code p);
}

abbrev pub planned_in : World → ℕ → Option Code → List Planned
planned_in w current None = []
planned_in w current (Some code) = map (planned_place w current code.bytes) (placed code.bytes)

-- a method with its instructions, and the methods that each can call
unfoldable pub planned : World → MemberId → Plan
planned w m = record { method = m; instructions = planned_in w m.class (code_at w m) }

abbrev pub unless : List Plan → Option FlowFault → Result (List Plan) FlowFault
unless program None = Ok program
unless program (Some fault) = Err fault

abbrev pub flow_from : World → List MemberId → Result (List Plan) FlowFault
flow_from w ms = unless (map (planned w) ms) (first_fault w (slice_get ms most_methods) (take most_methods ms))

abbrev pub flow_at : World → Option MemberId → Result (List Plan) FlowFault
flow_at w None = Err NoMethod
flow_at w (Some m) = flow_from w (reached w m)

-- the methods that the target reaches, in breadth-first order, or the first fault
unfoldable pub flow_of : World → Target → Result (List Plan) FlowFault
flow_of w target = flow_at w (method_named w target)
