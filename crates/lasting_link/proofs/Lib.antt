mod LastingRun
