use Rattle.std.proofs.Common.{◌≡◌, drop}
use Rattle.std.specs.List.{list_all}
use Rattle.oci_link.specs.Leads.{entry_leads}
use Rattle.oci_link.proofs.leads.all_lead.Given as goal

abbrev pub invariant-loop-entry : goal.invariant-loop-entry
invariant-loop-entry l = list_all (entry_leads l.redirects) l.entries ≡ list_all (entry_leads l.redirects) (drop l.entry-index l.entries)
