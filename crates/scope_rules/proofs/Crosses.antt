-- A scope may cross threads: `IsSend` and `IsSync` of `Scope`, as a set for `search`. A struct's field is its `the_field`,
-- and an element or an argument its `the_row`.
use denote.Param.Send.{IsSend, IsSync, sendable}
use Rattle.std.proofs.Crossing as heap
use Rattle.regex_send.proofs.Crosses as regex
use Rattle.scope_rules.specs.contracts.pattern.Pattern as Pattern
use Rattle.scope_rules.specs.contracts.ready.ReadyRule as ReadyRule
use Rattle.scope_rules.specs.contracts.seeds.SeedPrefixes as SeedPrefixes
use Rattle.scope_rules.specs.contracts.scope.Scope as Scope
use Rattle.scope_rules.specs.contracts.threads.Asked as Asked

pattern_send : IsSend Pattern.the_row
pattern_send = search (regex.crosses, heap.crosses, sendable) depth 40

pattern_sync : IsSync Pattern.the_row
pattern_sync = search (regex.crosses, heap.crosses, sendable) depth 40

ready_send : IsSend ReadyRule.the_row
ready_send = search (heap.crosses, sendable) depth 40

ready_sync : IsSync ReadyRule.the_row
ready_sync = search (heap.crosses, sendable) depth 40

seeds_send : IsSend (SeedPrefixes.the_field).row
seeds_send = search (heap.crosses, sendable) depth 40

seeds_sync : IsSync (SeedPrefixes.the_field).row
seeds_sync = search (heap.crosses, sendable) depth 40

pub scope_send : IsSend Scope.the_row
scope_send = search (pattern_send, ready_send, seeds_send, heap.crosses, sendable) depth 40

pub scope_field_send : IsSend (Scope.the_field).row
scope_field_send = search (pattern_send, ready_send, seeds_send, heap.crosses, sendable) depth 40

pub scope_sync : IsSync Scope.the_row
scope_sync = search (pattern_sync, ready_sync, seeds_sync, heap.crosses, sendable) depth 40

pub scope_field_sync : IsSync (Scope.the_field).row
scope_field_sync = search (pattern_sync, ready_sync, seeds_sync, heap.crosses, sendable) depth 40

pub asked_send : IsSend Asked.the_row
asked_send = search (scope_field_send, heap.crosses, sendable) depth 40

pub ruleset crosses = (scope_send, scope_field_send, scope_sync, scope_field_sync)
