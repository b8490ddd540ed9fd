use Rattle.std.specs.Prelude.{Bool, IsTrue}

-- An order on facts, as its test, and the join of two facts. Test and join are for facts that are
-- alike.
pub record Order (Fact : Type 0) : Type 1 where
  pub Alike : Fact → Fact → Type 0
  pub leq : Fact → Fact → Bool
  pub join : Fact → Fact → Fact

-- a lies below b, or is b
abbrev pub Below : {Fact : Type 0} → Order Fact → Fact → Fact → Type 0
Below order a b = IsTrue (order.leq a b)
