pub mod Rising
pub mod SwitchCases
pub mod Agreeing
pub mod CasesRise
pub mod Inside
