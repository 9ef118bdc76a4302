use Rattle.thread_tests.proofs.audit_gate_tests.two_helpers_audit_while_a_call_is_held.Given as goal

-- the kernel that was just booted
abbrev pub ghosts-held : goal.ghosts-held
ghosts-held g a = record { frames = a.blank.frames; book = a.blank.book }
