mod Retried
