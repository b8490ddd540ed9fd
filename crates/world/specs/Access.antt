-- Access flags of methods (JVMS 4.6, table 4.6-A).
use Rattle.std.specs.Prelude.{ℕ, ◌||◌, not, Bool, true}
use Rattle.class_reader.specs.Flags.{is_public, is_private, is_protected, is_static, is_abstract}
use Rattle.world.specs.declared.access.MethodKind.{MethodKind}
use Rattle.world.specs.declared.access.MethodKind.TheVariants.{Any, Package, Inherited, Default}

-- for its package alone
abbrev pub is_package_private : ℕ → Bool
is_package_private flags = not (is_public flags || is_private flags || is_protected flags)

-- an instance method that subclasses have too
abbrev pub is_inherited : ℕ → Bool
is_inherited flags = not (is_private flags || is_static flags)

-- of an interface: a method with code that its implementing classes have too
abbrev pub is_default : ℕ → Bool
is_default flags = not (is_abstract flags || is_private flags || is_static flags)

-- a method that no instance can run
abbrev pub is_no_target : ℕ → Bool
is_no_target flags = is_static flags || is_abstract flags

-- the methods that are asked for
abbrev pub has_kind : MethodKind → ℕ → Bool
has_kind Any flags = true
has_kind Package flags = is_package_private flags
has_kind Inherited flags = is_inherited flags
has_kind Default flags = is_default flags
