-- The instructions of a method's code, one after another.
use Rattle.std.proofs.Common.{All, ◌≡◌, ℕ, ◌+◌, ◌<◌, ◌≤◌, List, [], ◌∷◌, ◌++◌, map, length, take, get_or, Option, sym, ap, subst, ◌∙◌}
use Rattle.std.specs.Prelude.{Contains}
use Rattle.std.proofs.lemmas.List.{map-append, take_all}
use Rattle.std.proofs.lemmas.List.Elements.{All-push}
use Rattle.common_laws.proofs.Parts.{take_next}
use Rattle.class_hierarchy.specs.World.{World}
use Rattle.code_blocks.specs.declared.instruction.Placed.{Placed}
use Rattle.code_blocks.specs.declared.instruction.Placement.{Placement}
use Rattle.code_blocks.specs.Placing.{placed, placement_of}
use Rattle.code_flow.specs.declared.scanning.Site.{Site}
use Rattle.code_flow.specs.declared.scanning.Sites.{Sites}
use Rattle.code_flow.specs.Scanning.{site_of, sites_of}
use Rattle.code_flow.specs.ThereScanning.{HasTargets}

-- one more
pub sites_next : (w : World) (current : ℕ) (code : List ℕ) (ps : List Placed) (k : ℕ) (p d : Placed) (sites more : List Site) (s : Site) → k < length ps → p ≡ get_or ps k d
    → sites ≡ map (site_of w current code) (take k ps) → s ≡ site_of w current code p → more ≡ sites ++ s ∷ [] → more ≡ map (site_of w current code) (take (k + 1) ps)
sites_next w current code ps k p d sites more s lt e h is push =
    push ∙ ap (λ l. l ++ s ∷ []) h ∙ ap (λ x. map (site_of w current code) (take k ps) ++ x ∷ []) is
    ∙ sym (map-append (site_of w current code) (take k ps) (p ∷ []))
    ∙ ap (λ l. map (site_of w current code) l) (sym (take_next ps k p d lt e))

pub there_next : (w : World) (sites more : List Site) (s : Site) → All (HasTargets w) sites → HasTargets w s → more ≡ sites ++ s ∷ [] → All (HasTargets w) more
there_next w sites more s before this push = subst (λ (l : List Site). All (HasTargets w) l) (sym push) (All-push (HasTargets w) sites s before this)

abbrev made : List Site → Option ℕ → Sites
made sites broken = record { sites = sites; broken = broken }

-- all of them
pub sites_all : (w : World) (current : ℕ) (code : List ℕ) (placement : Placement) (ps : List Placed) (k : ℕ) (sites : List Site) → placement ≡ placement_of code → ps ≡ placement.instructions
    → length ps ≤ k → sites ≡ map (site_of w current code) (take k ps) → made sites placement.broken ≡ sites_of w current code
sites_all w current code placement ps k sites is same le h =
    let all : sites ≡ map (site_of w current code) placement.instructions = h ∙ ap (λ l. map (site_of w current code) l) (take_all k ps le ∙ same) in
    ap (λ l. made l placement.broken) all ∙ ap (λ (p : Placement). made (map (site_of w current code) p.instructions) p.broken) is

pub among_placed : (code : List ℕ) (placement : Placement) (ps : List Placed) (k : ℕ) (p : Placed) → placement ≡ placement_of code → ps ≡ placement.instructions → k < length ps
    → p ≡ get_or ps k p → Contains (placed code) p
among_placed code placement ps k p is same lt e =
    subst (λ (l : List Placed). Contains l p) (same ∙ ap (λ (q : Placement). q.instructions) is) (k, lt, sym e)
