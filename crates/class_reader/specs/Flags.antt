-- Access flags of classes, fields and methods (JVMS 4.1, 4.5, 4.6).
use Rattle.std.specs.Prelude.{ℕ, ◌/◌, ◌%◌, ◌==◌, Bool}

-- ACC_PUBLIC, 0x0001
abbrev pub is_public : ℕ → Bool
is_public flags = flags / 1 % 2 == 1

-- ACC_PRIVATE, 0x0002
abbrev pub is_private : ℕ → Bool
is_private flags = flags / 2 % 2 == 1

-- ACC_PROTECTED, 0x0004
abbrev pub is_protected : ℕ → Bool
is_protected flags = flags / 4 % 2 == 1

-- ACC_STATIC, 0x0008
abbrev pub is_static : ℕ → Bool
is_static flags = flags / 8 % 2 == 1

-- ACC_FINAL, 0x0010
abbrev pub is_final : ℕ → Bool
is_final flags = flags / 16 % 2 == 1

-- ACC_SYNCHRONIZED, 0x0020
abbrev pub is_synchronized : ℕ → Bool
is_synchronized flags = flags / 32 % 2 == 1

-- ACC_NATIVE, 0x0100
abbrev pub is_native : ℕ → Bool
is_native flags = flags / 256 % 2 == 1

-- ACC_INTERFACE, 0x0200
abbrev pub is_interface : ℕ → Bool
is_interface flags = flags / 512 % 2 == 1

-- ACC_ABSTRACT, 0x0400
abbrev pub is_abstract : ℕ → Bool
is_abstract flags = flags / 1024 % 2 == 1
