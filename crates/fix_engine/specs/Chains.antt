use Rattle.std.specs.Prelude.{◌≢◌, ℕ, suc, ◌<◌, ◌≤◌, List, [], ◌∷◌, length}
use Rattle.std.proofs.Common.{arith}
use Rattle.fix_engine.specs.Order.{Order, Below}
use Rattle.fix_engine.specs.Lawful.{IsChain}

chain_head : {Fact : Type 0} (order : Order Fact) (P : Fact → Type 0) (a : Fact) (rest : List Fact) → IsChain order P (a ∷ rest) → P a
chain_head order P a [] h = h
chain_head order P a (b ∷ rest) h = h.0

chain_by_rank : {Fact : Type 0} (order : Order Fact) (P : Fact → Type 0) (rank : Fact → ℕ) → ((a b : Fact) → P a → P b → Below order a b → a ≢ b → rank a < rank b) → (a : Fact) (rest : List Fact) → IsChain order P (a ∷ rest) → length (a ∷ rest) ≤ suc (rank a)
chain_by_rank order P rank rises a [] h = omega arith
chain_by_rank order P rank rises a (b ∷ rest) h =
    let more : length (b ∷ rest) ≤ suc (rank b) = chain_by_rank order P rank rises b rest h.3 in
    let up : rank b < rank a = rises b a (chain_head order P b rest h.3) h.0 h.1 h.2 in
    omega arith

-- Where a rank below n rises with each rise of a fact, a rising chain has at most n facts.
pub IsChain-by_rank : {Fact : Type 0} (order : Order Fact) (P : Fact → Type 0) (rank : Fact → ℕ) (n : ℕ) → ((a b : Fact) → P a → P b → Below order a b → a ≢ b → rank a < rank b) → ((a : Fact) → P a → rank a < n) → (chain : List Fact) → IsChain order P chain → length chain ≤ n
IsChain-by_rank order P rank n rises most [] h = omega arith
IsChain-by_rank order P rank n rises most (a ∷ rest) h =
    let up = chain_by_rank order P rank rises a rest h in
    let top : rank a < n = most a (chain_head order P a rest h) in
    omega arith
